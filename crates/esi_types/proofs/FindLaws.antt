-- What is found by a name, in the words of `IsUnknown` and `IsFirstNamed`.
use Rattle.std.proofs.Common.{◌≡◌, ◌≢◌, ℕ, ◌<◌, ◌≤◌, Bool, true, false, not, Option, Some, None, List, [], ◌∷◌, length, get_or, take, cond, nat_lt, refl, sym, subst, arith, ◌↔◌}
use Rattle.std.specs.Prelude.{IsNone, IfSome, IsSomeAnd, position, slice_get}
use Rattle.std.proofs.lemmas.Bool.Decides.{nat_tests}
use Rattle.std.specs.List.{position_or_len}
use Rattle.std.specs.Option.{option_map, option_or}
use Rattle.std.specs.Str.{bytes_eq}
use Rattle.std.proofs.lemmas.List.{get_or-take, length-take}
use Rattle.std.proofs.lemmas.List.Sums.{prefix_len_passes}
use Rattle.std.proofs.lemmas.List.Elements.{All-from_get_or}
use Rattle.std.proofs.lemmas.List.Quantifiers.{position-Some}
use Rattle.std.proofs.lemmas.Option.{slice_get-get_or}
use Rattle.std.proofs.lemmas.Slice.Eq.{bytes_eq-Decides}
use Rattle.esi_types.specs.declared.directory.Directory.{Directory}
use Rattle.esi_types.specs.declared.directory.Side.{Side}
use Rattle.esi_types.specs.declared.directory.Side.TheVariants.{ToServer, ToClient}
use Rattle.esi_types.specs.declared.endpoint.Endpoint.{Endpoint}
use Rattle.esi_types.specs.Directory.{index_of, find_of, NoneNamed, IsUnknown, IsFirstNamed}

-- no item passes
abbrev AllFail : {X : Type 0} → (X → Bool) → List X → Type 0
AllFail {X} p xs = (k : ℕ) (d : X) → k < length xs → p (get_or xs k d) ≡ false

-- the test by which an endpoint is found
abbrev is_named : List ℕ → Endpoint → Bool
is_named name e = bytes_eq e.name name

-- this endpoint is the first of the name
record IsFirstOf (name : List ℕ) (endpoints : List Endpoint) (index : ℕ) : Type 0 where
  named : IsSomeAnd (slice_get endpoints index) (λ e. e.name ≡ name)
  before : NoneNamed name (take index endpoints)

-- ---- the first index at which a test passes, in any list

past : (n m : ℕ) → cond (nat_lt n m) (Some n) None ≡ None → m ≤ n
past n m none = grind (arith, nat_tests)

fails : (b : Bool) → not b ≡ true → b ≡ false
fails true e = cc
fails false e = refl

-- where there is no such index, no item passes
none_passes : {X : Type 0} (p : X → Bool) (xs : List X) → position p xs ≡ None → AllFail p xs
none_passes p xs none k d l =
    let high : length xs ≤ position_or_len p xs = past (position_or_len p xs) (length xs) none in
    fails (p (get_or xs k d)) (prefix_len_passes (λ x. not (p x)) xs k d (omega arith))

-- and the other way round
position-None : {X : Type 0} (p : X → Bool) (xs : List X) → AllFail p xs → position p xs ≡ None
position-None p [] none = refl
position-None p (x ∷ xs) none = of (position p (x ∷ xs)) refl
  where
    of : (found : Option ℕ) → position p (x ∷ xs) ≡ found → found ≡ None
    of None e = refl
    of (Some k) e = let here = position-Some p (x ∷ xs) k x e in let fails = none k x here.0 in absurd (cc here.1)

-- ---- the first endpoint of a name

-- the test is the equation of the names
named : (name other : List ℕ) → bytes_eq other name ≡ true → other ≡ name
named name other passes = (bytes_eq-Decides other name).0 passes

not_named : (name other : List ℕ) → bytes_eq other name ≡ false → other ≢ name
not_named name other fails same = let passes = (bytes_eq-Decides other name).1 same in cc

fails_named : (name other : List ℕ) → other ≢ name → bytes_eq other name ≡ false
fails_named name other differs = of (bytes_eq other name) (bytes_eq-Decides other name).0
  where
    of : (b : Bool) → (b ≡ true → other ≡ name) → b ≡ false
    of true e = absurd (differs (e refl))
    of false e = refl

-- where no index is found, no endpoint has the name
none_named : (name : List ℕ) (endpoints : List Endpoint) → index_of name endpoints ≡ None → NoneNamed name endpoints
none_named name endpoints none k d l = not_named name (get_or endpoints k d).name (none_passes (is_named name) endpoints none k d l)

-- and the other way round
index_of-None : (name : List ℕ) (endpoints : List Endpoint) → NoneNamed name endpoints → index_of name endpoints ≡ None
index_of-None name endpoints none = position-None (is_named name) endpoints (λ k d l. fails_named name (get_or endpoints k d).name (none k d l))

-- the index that is found is that of the first endpoint of the name
index_of-Some : (name : List ℕ) (endpoints : List Endpoint) (index : ℕ) → index_of name endpoints ≡ Some index → IsFirstOf name endpoints index
index_of-Some name [] index some = cc
index_of-Some name (e ∷ es) index some =
    let here = position-Some (is_named name) (e ∷ es) index e some in
    record {
      named = subst (λ o. IsSomeAnd o (λ e. e.name ≡ name)) (sym (slice_get-get_or (e ∷ es) index e here.0)) (named name (get_or (e ∷ es) index e).name here.1);
      before = All-from_get_or (λ x. x.name ≢ name) (take index (e ∷ es)) e (λ k l.
          let before : k < index = omega (arith, length-take index (e ∷ es)) in
          not_named name (get_or (take index (e ∷ es)) k e).name (rw (get_or-take index (e ∷ es) k e before) (here.2 k before)));
    }

-- ---- the two sides together

-- the side and the index, from the first index on each side
abbrev either : Option ℕ → Option ℕ → Option (Side × ℕ)
either first other = option_or (option_map (λ index. (ToServer, index)) first) (option_map (λ index. (ToClient, index)) other)

both_None : (first other : Option ℕ) → IsNone (either first other) → (first ≡ None) × (other ≡ None)
both_None (Some index) other none = absurd (cc)
both_None None (Some index) none = absurd (cc)
both_None None None none = (refl, refl)

find_of-None : (directory : Directory) (name : List ℕ) → IsNone (find_of directory name) ↔ IsUnknown directory name
find_of-None directory name = (
  λ none. let both = both_None (index_of name directory.to_server) (index_of name directory.to_client) none in record {
    to_server = none_named name directory.to_server both.0;
    to_client = none_named name directory.to_client both.1;
  },
  λ unknown. rw (index_of-None name directory.to_server unknown.to_server, index_of-None name directory.to_client unknown.to_client) refl,
)

find_of-Some : (directory : Directory) (name : List ℕ) → IfSome (find_of directory name) (λ found. IsFirstNamed directory name found.0 found.1)
find_of-Some directory name = of (index_of name directory.to_server) (index_of name directory.to_client) refl refl
  where
    of : (first other : Option ℕ) → index_of name directory.to_server ≡ first → index_of name directory.to_client ≡ other → IfSome (either first other) (λ found. IsFirstNamed directory name found.0 found.1)
    of (Some index) other e f = let here = index_of-Some name directory.to_server index e in record { named = here.named; before = here.before; other_side = λ side. absurd (cc) }
    of None (Some index) e f =
        let here = index_of-Some name directory.to_client index f in
        record { named = here.named; before = here.before; other_side = λ side. none_named name directory.to_server e }
    of None None e f = tt

-- what the answer says, where it is the one that is computed
pub none_found : (directory : Directory) (name : List ℕ) (found : Option (Side × ℕ)) → found ≡ find_of directory name → IsNone found ↔ IsUnknown directory name
none_found directory name found e = subst (λ o. IsNone o ↔ IsUnknown directory name) (sym e) (find_of-None directory name)

pub first_found : (directory : Directory) (name : List ℕ) (found : Option (Side × ℕ)) → found ≡ find_of directory name → IfSome found (λ found. IsFirstNamed directory name found.0 found.1)
first_found directory name found e = subst (λ o. IfSome o (λ found. IsFirstNamed directory name found.0 found.1)) (sym e) (find_of-Some directory name)
