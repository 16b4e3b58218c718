-- The texts that a command reads.
use Rattle.std.specs.Prelude.{ℕ, List, [], ◌∷◌, Option, unwrap_or}
use Rattle.esi_links.specs.Texts.{ReadUpTo}

-- these texts were read under these names, each up to one octet above its limit
abbrev pub AreRead : (List ℕ → Option (List ℕ)) → List ℕ → List (List ℕ) → List (List ℕ) → Type 0
AreRead told [] [] [] = Unit {0}
AreRead told [] [] (text ∷ texts) = ⊥
AreRead told [] (name ∷ names) texts = ⊥
AreRead told (limit ∷ limits) [] texts = ⊥
AreRead told (limit ∷ limits) (name ∷ names) [] = ⊥
AreRead told (limit ∷ limits) (name ∷ names) (text ∷ texts) = ReadUpTo limit (told name) text × AreRead told limits names texts

-- what is told under a name, and what was read there where nothing is told
abbrev pub agreeing_texts : (List ℕ → Option (List ℕ)) → List (List ℕ) → List (List ℕ) → List (List ℕ)
agreeing_texts told [] texts = []
agreeing_texts told (name ∷ names) [] = []
agreeing_texts told (name ∷ names) (text ∷ texts) = unwrap_or (told name) text ∷ agreeing_texts told names texts

-- what is told under each name, no octet where nothing is
abbrev pub any_texts : (List ℕ → Option (List ℕ)) → List (List ℕ) → List (List ℕ)
any_texts told [] = []
any_texts told (name ∷ names) = unwrap_or (told name) [] ∷ any_texts told names
