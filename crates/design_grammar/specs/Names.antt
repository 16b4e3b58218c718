-- The names of the design text.
use Rattle.std.proofs.Common.{◌≡◌, ◌==◌, ℕ, Bool, true, false, if◌then◌else◌, List, [], ◌∷◌, nat_lt, ◌^◌, refl}
use Rattle.ll1_grammar.specs.Kinds.{among}
use Rattle.design_lex.specs.Spellings.{IsWordText, IsSpelled}
use Rattle.design_lex.specs.declared.token.Token.{Token}
use Rattle.design_lex.specs.declared.token.Token.TheVariants.{Word, TypeWord as WidthWord, Number, Sign, Faulty, End}
use Rattle.design_grammar.specs.declared.kind.Kind.{Kind}
use Rattle.design_grammar.specs.declared.kind.Kind.TheVariants.{One, Small, Great}
use Rattle.design_grammar.specs.Keywords.{signs, kind_of_sign}
use Rattle.design_grammar.specs.Kinds.{code, names, word_kind, number_kind, sign_kind}
use Rattle.design_grammar.specs.Grammar.{kind_code, word_in}

-- A name is a word, so that it begins with a letter or `_`, which letters, digits and `_` follow, has at most 64 octets
-- and is no type word; and it is no keyword.
pub record IsName (octets : List ℕ) : Type 0 where
  pub word : IsWordText octets
  pub no_keyword : among names (code (word_kind octets)) ≡ true

-- a kind that is not among those of names
record IsOther (k : Kind) : Type 0 where
  fact : among names (code k) ≡ false

either_other : (b : Bool) (x y : Kind) → IsOther x → IsOther y → IsOther (if b then x else y)
either_other true x y h k = h
either_other false x y h k = k

other_number : (n : ℕ) → IsOther (number_kind n)
other_number n = either_other (n == 1) One _ (record { fact = refl }) (either_other (nat_lt n (2 ^ 32)) Small Great (record { fact = refl }) (record { fact = refl }))

AreOther : List (ℕ × Kind) → Type 0
AreOther [] = Unit {0}
AreOther (s ∷ ss) = IsOther s.1 × AreOther ss

table_other : (ss : List (ℕ × Kind)) (b : ℕ) → AreOther ss → IsOther (kind_of_sign ss b)
unfolding AreOther
table_other [] b h = record { fact = refl }
table_other (s ∷ ss) b h = either_other (b == s.0) s.1 _ h.0 (table_other ss b h.1)

other_sign : (b : ℕ) → IsOther (sign_kind b)
unfolding AreOther
other_sign b = table_other signs b (record { fact = refl }, (record { fact = refl }, (record { fact = refl }, (record { fact = refl }, (record { fact = refl }, (record { fact = refl }, (record { fact = refl }, (record { fact = refl }, (record { fact = refl }, (record { fact = refl }, (record { fact = refl }, (record { fact = refl }, (record { fact = refl }, tt)))))))))))))

-- a token of the kinds of names is a name
pub name_token : (t : Token) → among names (kind_code t) ≡ true → IsSpelled t → IsName (word_in t)
name_token (Word w) e h = record { word = h; no_keyword = e }
name_token (WidthWord class width) e h = absurd (cc)
name_token (Number n) e h = let o = other_number n in absurd (cc o.fact)
name_token (Sign b) e h = let o = other_sign b in absurd (cc o.fact)
name_token (Faulty f) e h = absurd (cc)
name_token End e h = absurd (cc)
