-- Lists of the design text: one item after another, as long as a token comes with which an item begins.
use Rattle.std.proofs.Common.{◌≡◌, ◌<◌, ℕ, true, false, List, [], ◌∷◌, ◌++◌, length, Ok, Err, refl, subst}
use Rattle.ll1_grammar.specs.Lexemes.{Lexemes}
use Rattle.ll1_grammar.specs.Rule.{Kinds, Rule, Tree}
use Rattle.ll1_grammar.specs.Rule.Rule.{star}
use Rattle.ll1_grammar.specs.Kinds.{first_set, is_ll1, may_be_empty}
use Rattle.ll1_grammar.specs.declared.refusal.TokenRefusal.{TokenRefusal}
use Rattle.ll1_grammar.specs.Trees.{Checks}
use Rattle.ll1_grammar.specs.Parse.{Parser}
use Rattle.ll1_grammar.specs.Readers.{Read, Reader, and_then, pure, ◌>>=◌, ◌>>◌, all_onto}
use Rattle.ll1_grammar.specs.Bridge.{Implements, items, through_items, map_implements, star_implements}
use Rattle.ll1_grammar.specs.WholeTexts.{Readable, begins_alike, front_shorter, ok_value}
use Rattle.design_lex.specs.declared.token.Token.{Token}
use Rattle.design_grammar.specs.declared.kind.Kind.TheVariants.{Comma}
use Rattle.design_grammar.specs.Grammar.{expect}
use Rattle.design_grammar.specs.Rules.{designs}
use Rattle.design_grammar.specs.Implementing.{implements_as}

-- the items that were read, and one more
unfoldable pub one_more : {A : Type 0} → Reader Token A → List A → Reader Token (List A)
one_more item front = item >>= λ a. pure (front ++ a ∷ [])

-- the items that were read, and all that come next
abbrev pub items_onto : {A : Type 0} → Kinds → Reader Token A → List A → Reader Token (List A)
items_onto starts item front = all_onto designs starts (one_more item) front

-- an item behind its comma
abbrev pub after_comma : {A : Type 0} → Reader Token A → Reader Token A
after_comma item = expect Comma >> item

-- what is read takes lexemes away
abbrev pub Shortens : {A : Type 0} → Reader Token A → Type 0
Shortens {A} item = (ts : Lexemes Token) (a : A) (us : Lexemes Token) → item ts ≡ Ok (a, us) → length us < length ts

-- so does one item more
pub one_more_shorter : {A : Type 0} (item : Reader Token A) → Shortens item → (front : List A) (ts : Lexemes Token) (u : List A) (us : Lexemes Token) → one_more item front ts ≡ Ok (u, us) → length us < length ts
unfolding one_more
one_more_shorter {A} item shorter front ts u us e = of (item ts) refl e
  where
    of : (x : Read Token A) → item ts ≡ x → and_then x (λ a. pure (front ++ a ∷ [])) ≡ Ok (u, us) → length us < length ts
    of (Ok x) d q = subst (λ z. length z < length ts) (ok_value (front ++ x.0 ∷ []) u x.1 us q).1 (shorter ts x.0 x.1 d)
    of (Err f) d q = absurd (cc)

-- What reads an item of a rule reads lists of that rule's items.
module _ (check : Checks Token) (env : ℕ → Parser Token) (called : ℕ → Tree Token → Type 0) (bad : ℕ → TokenRefusal → ℕ → Tree Token → Type 0) (all : Readable designs check called bad env) where
  module _ {A : Type 0} {item : Reader Token A} {value : Tree Token → A} (r : Rule) (decided : is_ll1 designs r ≡ true) (implements : Implements designs check env item value r []) where
    pub item_shorter : may_be_empty designs r ≡ false → Shortens item
    item_shorter n = front_shorter designs check called bad env all r decided value item implements n

    pub items_implements : (starts : Kinds) → first_set designs r ≡ starts → (front : List A) (also : Kinds)
        → Implements designs check env (items_onto starts item front) (λ t. front ++ items value t) (star r) also
    unfolding one_more
    items_implements starts kinds front also =
        implements_as check env (star_implements designs check env starts front also kinds (begins_alike designs check called bad env all r decided) (λ s. map_implements designs check env (λ a. s ++ a ∷ []) implements))
        (λ t. through_items value front t)
