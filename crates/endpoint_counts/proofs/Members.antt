-- The members of a bundle are as many endpoints of each side as their totals say.
use Rattle.std.proofs.Common.{◌≡◌, ℕ, ◌+◌, Bool, true, false, List, [], ◌∷◌, length, map, refl, sym, ap, ◌∙◌, arith}
use Rattle.std.specs.Prelude.{cond, filter}
use Rattle.std.proofs.lemmas.List.{length-map}
use Rattle.design_tree.specs.declared.declarations.Direction.{Direction}
use Rattle.design_tree.specs.declared.declarations.Direction.TheVariants.{ToHardware, FromHardware}
use Rattle.design_tree.specs.declared.declarations.Member.{Member}
use Rattle.check_rules.specs.Totals.{Totals, nothing, both, member_total, in_all}
use Rattle.design_endpoints.specs.Endpoints.{goes, endpoint_of_member, ends_of_members}

abbrev towards : Direction → Member → Bool
towards way m = goes way m.direction

-- what the totals say of a side
abbrev pub side : Direction → Totals → ℕ
side ToHardware t = t.to_server
side FromHardware t = t.to_client

kept_first : (b : Bool) (m : Member) (rest : List Member) → length (cond b (m ∷ rest) rest) ≡ cond b 1 0 + length rest
kept_first true m rest = let e : length (m ∷ rest) ≡ 1 + length rest = omega arith in e
kept_first false m rest = omega arith

-- one member
of_one : (way own : Direction) (m : Member) → cond (goes way own) 1 0 ≡ side way (member_total (record m { direction = own }))
of_one ToHardware ToHardware m = refl
of_one ToHardware FromHardware m = refl
of_one FromHardware ToHardware m = refl
of_one FromHardware FromHardware m = refl

side_nothing : (way : Direction) → 0 ≡ side way nothing
side_nothing ToHardware = refl
side_nothing FromHardware = refl

side_both : (way : Direction) (a b : Totals) → side way a + side way b ≡ side way (both a b)
side_both ToHardware a b = refl
side_both FromHardware a b = refl

-- the members of a request
pub members_counted : (way : Direction) (id : List ℕ) (members : List Member) → length (ends_of_members way id members) ≡ side way (in_all (map member_total members))
members_counted way id [] = side_nothing way
members_counted way id (m ∷ ms) =
    length-map (filter (towards way) (m ∷ ms)) (endpoint_of_member id)
    ∙ kept_first (towards way m) m (filter (towards way) ms)
    ∙ ap (λ n. n + length (filter (towards way) ms)) (of_one way m.direction m)
    ∙ ap (λ n. side way (member_total m) + n) (sym (length-map (filter (towards way) ms) (endpoint_of_member id)) ∙ members_counted way id ms)
    ∙ side_both way (member_total m) (in_all (map member_total ms))
