-- What is computed of a header list, against the rules in words.
use Rattle.std.proofs.Common.{◌≡◌, ℕ, suc, ◌+◌, ◌≤◌, ◌⊎◌, inl, inr, Bool, true, false, not, ◌||◌, ◌&&◌, cond, List, [], ◌∷◌, drop, refl, ap, sym, ◌∙◌, arith}
use Rattle.std.specs.Prelude.{Any, codes, nat_le, bytes_eq, ◌==◌}
use Rattle.std.specs.Bool.{Decides}
use Rattle.std.specs.List.{list_any, prefix_len}
use Rattle.std.proofs.lemmas.Bool.{leb-true, le-leb}
use Rattle.std.proofs.lemmas.Bool.Decides.{Decides-eqb, Decides-not, Decides-and, Decides-or, Decides-at, Decides-like}
use Rattle.std.proofs.lemmas.List.Folds.{Any-from_list_any, list_any-from_Any}
use Rattle.std.proofs.lemmas.Slice.Eq.{bytes_eq-Decides}
use Rattle.hpack.specs.declared.header.Header.{Header}
use Rattle.header_lists.specs.declared.kind.ListKind.{ListKind}
use Rattle.header_lists.specs.declared.kind.ListKind.TheVariants.{Request, Reply, Trailers}
use Rattle.header_lists.specs.Fields.{is_named, is_bad_in_name, is_colon, is_bad_name, is_bad_in_value, is_connection_field, is_bad_te, is_bad_field, begins_with_colon, is_pseudo, is_request_pseudo, is_reply_pseudo}
use Rattle.header_lists.specs.HeaderLists.{has_field, has_late_pseudo, has_repeated_pseudo, is_foreign, is_connect_field, is_connect, lacks_target, lacks_pseudo, is_malformed}
use Rattle.header_rules.specs.FieldRules.{IsNamed, IsNoNameOctet, IsColon, IsBadName, IsNoValueOctet, IsOfConnection, IsOtherTe, IsPseudo}
use Rattle.header_rules.specs.ListRules.{Has, SomeBefore, IsLate, IsRepeated, HasPlace, IsForeign, IsConnect, ListRule, Breaks}
use Rattle.header_rules.specs.ListRules.ListRule.{NameOfField, ValueOfField, NoConnectionField, TeOfTrailers, PseudoFirst, PseudoOnce, PseudoOfKind, MethodIsThere, TargetIsThere, TargetOfConnect, StatusIsThere}

-- ---- tests, and what they decide

le_decides : (a b : ℕ) → Decides (nat_le a b) (a ≤ b)
le_decides a b = (λ e. leb-true a b e, λ h. le-leb a b h)

any_decides : {X : Type 0} (p : X → Bool) (P : X → Type 0) (each : (x : X) → Decides (p x) (P x)) (xs : List X) → Decides (list_any p xs) (Any P xs)
any_decides p P each xs = (
  λ e. let some = Any-from_list_any p xs e in (some.0, some.1, some.2, some.3, (each some.1).0 some.4),
  λ some. list_any-from_Any p xs (some.0, some.1, some.2, some.3, (each some.1).1 some.4),
)

if_decides : {C P Q : Type 0} (c a b : Bool) → Decides c C → Decides a P → Decides b Q → Decides (cond c a b) ((C × P) ⊎ (¬ C × Q))
if_decides true a b c one other = (
  λ e. inl (c.0 refl, one.0 e),
  λ some. elim some [ inl x ↦ one.1 x.1 | inr x ↦ absurd (x.0 (c.0 refl)) ],
)
if_decides false a b c one other = (
  λ e. inr (λ h. let no : false ≡ true = c.1 h in cc, other.0 e),
  λ some. elim some [ inl x ↦ let no : false ≡ true = c.1 x.0 in absurd (cc) | inr x ↦ other.1 x.1 ],
)

any_more : {X : Type 0} (P : X → Type 0) (x : X) (xs : List X) → Any P xs → Any P (x ∷ xs)
any_more P x xs some = (suc some.0, some.1, omega (arith, some.2), some.3, some.4)

any_like : {X : Type 0} (P Q : X → Type 0) (xs : List X) → ((x : X) → P x → Q x) → Any P xs → Any Q xs
any_like P Q xs f some = (some.0, some.1, some.2, some.3, f some.1 some.4)

-- ---- one field

named : (name : List ℕ) (header : Header) → Decides (is_named name header) (IsNamed name header)
named name header = bytes_eq-Decides header.name name

name_octet : (octet : ℕ) → Decides (is_bad_in_name octet) (IsNoNameOctet octet)
name_octet octet =
    Decides-or (nat_le octet 32 || (nat_le 65 octet && nat_le octet 90)) (nat_le 127 octet)
    (Decides-or (nat_le octet 32) (nat_le 65 octet && nat_le octet 90) (le_decides octet 32) (Decides-and (nat_le 65 octet) (nat_le octet 90) (le_decides 65 octet) (le_decides octet 90)))
    (le_decides 127 octet)

bad_name : (name : List ℕ) → Decides (is_bad_name name) (IsBadName name)
bad_name [] = (λ e. inl refl, λ some. refl)
bad_name (octet ∷ octets) =
    Decides-like (list_any is_bad_in_name (octet ∷ octets) || list_any is_colon octets)
    (λ some. inr some)
    (λ some. elim some [ inl e ↦ absurd (cc e) | inr x ↦ x ])
    (Decides-or (list_any is_bad_in_name (octet ∷ octets)) (list_any is_colon octets)
    (any_decides is_bad_in_name IsNoNameOctet name_octet (octet ∷ octets))
    (any_decides is_colon IsColon (λ o. Decides-eqb o 58) octets))

value_octet : (octet : ℕ) → Decides (is_bad_in_value octet) (IsNoValueOctet octet)
value_octet octet =
    Decides-or (octet == 0 || octet == 10) (octet == 13) (Decides-or (octet == 0) (octet == 10) (Decides-eqb octet 0) (Decides-eqb octet 10)) (Decides-eqb octet 13)

of_connection : (header : Header) → Decides (is_connection_field header) (IsOfConnection header)
of_connection header =
    let a = is_named (codes "connection") header in let b = is_named (codes "proxy-connection") header in let c = is_named (codes "keep-alive") header in
    let d = is_named (codes "transfer-encoding") header in let e = is_named (codes "upgrade") header in
    Decides-or (((a || b) || c) || d) e
    (Decides-or ((a || b) || c) d
    (Decides-or (a || b) c
    (Decides-or a b (named (codes "connection") header) (named (codes "proxy-connection") header))
    (named (codes "keep-alive") header))
    (named (codes "transfer-encoding") header))
    (named (codes "upgrade") header)

other_te : (header : Header) → Decides (is_bad_te header) (IsOtherTe header)
other_te header =
    Decides-and (is_named (codes "te") header) (not (bytes_eq header.value (codes "trailers"))) (named (codes "te") header)
    (Decides-not (bytes_eq header.value (codes "trailers")) (bytes_eq-Decides header.value (codes "trailers")))

abbrev IsBadField : Header → Type 0
IsBadField header = ((IsBadName header.name ⊎ Any IsNoValueOctet header.value) ⊎ IsOfConnection header) ⊎ IsOtherTe header

bad_field : (header : Header) → Decides (is_bad_field header) (IsBadField header)
bad_field header =
    let a = is_bad_name header.name in let b = list_any is_bad_in_value header.value in
    Decides-or ((a || b) || is_connection_field header) (is_bad_te header)
    (Decides-or (a || b) (is_connection_field header)
    (Decides-or a b (bad_name header.name) (any_decides is_bad_in_value IsNoValueOctet value_octet header.value))
    (of_connection header))
    (other_te header)

colon_first : (name : List ℕ) → Decides (begins_with_colon name) ((rest : List ℕ) × (name ≡ 58 ∷ rest))
colon_first [] = (λ e. absurd (cc e), λ some. absurd (cc some.1))
colon_first (octet ∷ octets) = (
  λ e. (octets, ap (λ (o : ℕ). o ∷ octets) ((Decides-eqb octet 58).0 e)),
  λ some. (Decides-eqb octet 58).1 (cc some.1),
)

pseudo : (header : Header) → Decides (is_pseudo header) (IsPseudo header)
pseudo header = colon_first header.name

-- ---- the order of fields

late_after : (headers : List Header) → SomeBefore IsLate headers → Any IsPseudo headers
late_after [] some = absurd some
late_after (header ∷ headers) some =
    elim some [
      | inl x ↦ any_more IsPseudo header headers (any_like (IsLate header) IsPseudo headers (λ other late. late.1) x)
      | inr x ↦ any_more IsPseudo header headers (late_after headers x)
    ]

late_by : (b : Bool) (header : Header) (headers : List Header) → is_pseudo header ≡ b → Decides (has_late_pseudo headers) (SomeBefore IsLate headers)
    → Decides (list_any is_pseudo (drop (cond b (1 + prefix_len is_pseudo headers) 0) (header ∷ headers))) (SomeBefore IsLate (header ∷ headers))
late_by true header headers is rest =
    let n = prefix_len is_pseudo headers in
    let one_more : 1 + n ≡ suc n = omega arith in
    Decides-at (list_any is_pseudo (drop (1 + n) (header ∷ headers))) (has_late_pseudo headers) (ap (λ (m : ℕ). list_any is_pseudo (drop m (header ∷ headers))) one_more)
    (Decides-like (has_late_pseudo headers) (λ some. inr some)
    (λ some. elim some [ inl x ↦ absurd (x.4.0 ((pseudo header).0 is)) | inr x ↦ x ]) rest)
late_by false header headers is rest =
    Decides-at (is_pseudo header || list_any is_pseudo headers) (list_any is_pseudo headers) (ap (λ (b : Bool). b || list_any is_pseudo headers) is)
    (Decides-like (list_any is_pseudo headers)
    (λ some. inl (any_like IsPseudo (IsLate header) headers (λ other is_one. (λ h. let no : false ≡ true = sym is ∙ (pseudo header).1 h in cc, is_one)) some))
    (λ some. elim some [ inl x ↦ any_like (IsLate header) IsPseudo headers (λ other late. late.1) x | inr x ↦ late_after headers x ])
    (any_decides is_pseudo IsPseudo pseudo headers))

late : (headers : List Header) → Decides (has_late_pseudo headers) (SomeBefore IsLate headers)
late [] = (λ e. cc e, λ some. absurd some)
late (header ∷ headers) = late_by (is_pseudo header) header headers refl (late headers)

has : (name : List ℕ) (headers : List Header) → Decides (has_field name headers) (Has name headers)
has name headers = any_decides (is_named name) (IsNamed name) (named name) headers

repeated : (headers : List Header) → Decides (has_repeated_pseudo headers) (SomeBefore IsRepeated headers)
repeated [] = (λ e. cc e, λ some. absurd some)
repeated (header ∷ headers) =
    Decides-or (is_pseudo header && has_field header.name headers) (has_repeated_pseudo headers)
    (Decides-like (is_pseudo header && has_field header.name headers)
    (λ both. any_like (IsNamed header.name) (IsRepeated header) headers (λ other same. (both.0, same)) both.1)
    (λ some. (some.4.0, any_like (IsRepeated header) (IsNamed header.name) headers (λ other both. both.1) some))
    (Decides-and (is_pseudo header) (has_field header.name headers) (pseudo header) (has header.name headers)))
    (repeated headers)

-- ---- which pseudo-headers a list has

request_pseudo : (header : Header) → Decides (is_request_pseudo header) (HasPlace Request header)
request_pseudo header =
    let a = is_named (codes ":method") header in let b = is_named (codes ":scheme") header in let c = is_named (codes ":path") header in let d = is_named (codes ":authority") header in
    Decides-or ((a || b) || c) d
    (Decides-or (a || b) c (Decides-or a b (named (codes ":method") header) (named (codes ":scheme") header)) (named (codes ":path") header))
    (named (codes ":authority") header)

foreign : (kind : ListKind) (header : Header) → Decides (is_foreign kind header) (IsForeign kind header)
foreign Request header = Decides-and (is_pseudo header) (not (is_request_pseudo header)) (pseudo header) (Decides-not (is_request_pseudo header) (request_pseudo header))
foreign Reply header = Decides-and (is_pseudo header) (not (is_reply_pseudo header)) (pseudo header) (Decides-not (is_reply_pseudo header) (named (codes ":status") header))
foreign Trailers header = Decides-like (is_pseudo header) (λ is. (is, λ no. no)) (λ both. both.0) (pseudo header)

connect : (headers : List Header) → Decides (is_connect headers) (IsConnect headers)
connect headers =
    any_decides is_connect_field (λ header. IsNamed (codes ":method") header × (header.value ≡ codes "CONNECT"))
    (λ header. Decides-and (is_named (codes ":method") header) (bytes_eq header.value (codes "CONNECT")) (named (codes ":method") header) (bytes_eq-Decides header.value (codes "CONNECT"))) headers

lacks : (name : List ℕ) (headers : List Header) → Decides (not (has_field name headers)) (¬ Has name headers)
lacks name headers = Decides-not (has_field name headers) (has name headers)

abbrev LacksTarget : List Header → Type 0
LacksTarget headers =
    (IsConnect headers × ((Has (codes ":scheme") headers ⊎ Has (codes ":path") headers) ⊎ ¬ Has (codes ":authority") headers))
    ⊎ (¬ IsConnect headers × (¬ Has (codes ":scheme") headers ⊎ ¬ Has (codes ":path") headers))

target : (headers : List Header) → Decides (lacks_target headers) (LacksTarget headers)
target headers =
    let scheme = has_field (codes ":scheme") headers in let path = has_field (codes ":path") headers in let authority = has_field (codes ":authority") headers in
    if_decides (is_connect headers) ((scheme || path) || not authority) (not scheme || not path) (connect headers)
    (Decides-or (scheme || path) (not authority) (Decides-or scheme path (has (codes ":scheme") headers) (has (codes ":path") headers)) (lacks (codes ":authority") headers))
    (Decides-or (not scheme) (not path) (lacks (codes ":scheme") headers) (lacks (codes ":path") headers))

abbrev Lacks : ListKind → List Header → Type 0
Lacks Request headers = ¬ Has (codes ":method") headers ⊎ LacksTarget headers
Lacks Reply headers = ¬ Has (codes ":status") headers
Lacks Trailers headers = ⊥

missing : (kind : ListKind) (headers : List Header) → Decides (lacks_pseudo kind headers) (Lacks kind headers)
missing Request headers = Decides-or (not (has_field (codes ":method") headers)) (lacks_target headers) (lacks (codes ":method") headers) (target headers)
missing Reply headers = lacks (codes ":status") headers
missing Trailers headers = (λ e. cc e, λ some. absurd some)

-- ---- all rules

abbrev BreaksSome : ListKind → List Header → Type 0
BreaksSome kind headers = (((Any IsBadField headers ⊎ SomeBefore IsLate headers) ⊎ SomeBefore IsRepeated headers) ⊎ Any (IsForeign kind) headers) ⊎ Lacks kind headers

all_decides : (kind : ListKind) (headers : List Header) → Decides (is_malformed kind headers) (BreaksSome kind headers)
all_decides kind headers =
    let a = list_any is_bad_field headers in let b = has_late_pseudo headers in let c = has_repeated_pseudo headers in let d = list_any (is_foreign kind) headers in
    Decides-or (((a || b) || c) || d) (lacks_pseudo kind headers)
    (Decides-or ((a || b) || c) d
    (Decides-or (a || b) c (Decides-or a b (any_decides is_bad_field IsBadField bad_field headers) (late headers)) (repeated headers))
    (any_decides (is_foreign kind) (IsForeign kind) (foreign kind) headers))
    (missing kind headers)

abbrev SomeRule : ListKind → List Header → Type 0
SomeRule kind headers = (rule : ListRule) × Breaks rule kind headers

field_rule : (kind : ListKind) (headers : List Header) → Any IsBadField headers → SomeRule kind headers
field_rule kind headers some =
    elim some.4 [
      | inl three ↦ elim three [
        | inl two ↦ elim two [
          | inl x ↦ (NameOfField, (some.0, some.1, some.2, some.3, x))
          | inr x ↦ (ValueOfField, (some.0, some.1, some.2, some.3, x))
        ]
        | inr x ↦ (NoConnectionField, (some.0, some.1, some.2, some.3, x))
      ]
      | inr x ↦ (TeOfTrailers, (some.0, some.1, some.2, some.3, x))
    ]

missing_rule : (kind : ListKind) (headers : List Header) → Lacks kind headers → SomeRule kind headers
missing_rule Request headers some =
    elim some [
      | inl x ↦ (MethodIsThere, x)
      | inr other ↦ elim other [ inl x ↦ (TargetOfConnect, x) | inr x ↦ (TargetIsThere, x) ]
    ]
missing_rule Reply headers some = (StatusIsThere, some)
missing_rule Trailers headers some = absurd some

some_rule : (kind : ListKind) (headers : List Header) → BreaksSome kind headers → SomeRule kind headers
some_rule kind headers some =
    elim some [
      | inl four ↦ elim four [
        | inl three ↦ elim three [
          | inl two ↦ elim two [ inl x ↦ field_rule kind headers x | inr x ↦ (PseudoFirst, x) ]
          | inr x ↦ (PseudoOnce, x)
        ]
        | inr x ↦ (PseudoOfKind, x)
      ]
      | inr x ↦ missing_rule kind headers x
    ]

by_field : (kind : ListKind) (headers : List Header) → Any IsBadField headers → BreaksSome kind headers
by_field kind headers x = inl (inl (inl (inl x)))

rule_some : (rule : ListRule) (kind : ListKind) (headers : List Header) → Breaks rule kind headers → BreaksSome kind headers
rule_some NameOfField kind headers x = by_field kind headers (any_like (λ h. IsBadName h.name) IsBadField headers (λ h y. inl (inl (inl y))) x)
rule_some ValueOfField kind headers x = by_field kind headers (any_like (λ h. Any IsNoValueOctet h.value) IsBadField headers (λ h y. inl (inl (inr y))) x)
rule_some NoConnectionField kind headers x = by_field kind headers (any_like IsOfConnection IsBadField headers (λ h y. inl (inr y)) x)
rule_some TeOfTrailers kind headers x = by_field kind headers (any_like IsOtherTe IsBadField headers (λ h y. inr y) x)
rule_some PseudoFirst kind headers x = inl (inl (inl (inr x)))
rule_some PseudoOnce kind headers x = inl (inl (inr x))
rule_some PseudoOfKind kind headers x = inl (inr x)
rule_some MethodIsThere Request headers x = inr (inl x)
rule_some MethodIsThere Reply headers x = absurd x
rule_some MethodIsThere Trailers headers x = absurd x
rule_some TargetIsThere Request headers x = inr (inr (inr x))
rule_some TargetIsThere Reply headers x = absurd x
rule_some TargetIsThere Trailers headers x = absurd x
rule_some TargetOfConnect Request headers x = inr (inr (inl x))
rule_some TargetOfConnect Reply headers x = absurd x
rule_some TargetOfConnect Trailers headers x = absurd x
rule_some StatusIsThere Request headers x = absurd x
rule_some StatusIsThere Reply headers x = inr x
rule_some StatusIsThere Trailers headers x = absurd x

pub broken : (kind : ListKind) (headers : List Header) → is_malformed kind headers ≡ true → (rule : ListRule) × Breaks rule kind headers
broken kind headers e = some_rule kind headers ((all_decides kind headers).0 e)

pub malformed : (kind : ListKind) (headers : List Header) (rule : ListRule) → Breaks rule kind headers → is_malformed kind headers ≡ true
malformed kind headers rule breaks = (all_decides kind headers).1 (rule_some rule kind headers breaks)

well_by : (b : Bool) (P : Type 0) → (b ≡ true → P) → ¬ P → b ≡ false
well_by true P gives never = absurd (never (gives refl))
well_by false P gives never = refl

pub well_formed : (kind : ListKind) (headers : List Header) → ((rule : ListRule) → Breaks rule kind headers → ⊥) → is_malformed kind headers ≡ false
well_formed kind headers none = well_by (is_malformed kind headers) (SomeRule kind headers) (broken kind headers) (λ some. none some.0 some.1)
