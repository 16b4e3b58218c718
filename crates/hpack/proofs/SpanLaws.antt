-- The span of a name in the static table, and that what stands outside of it is passed over.
use Rattle.std.proofs.Common.{◌≡◌, ℕ, zero, suc, ◌+◌, ◌-◌, ◌*◌, ◌<◌, ◌≤◌, Bool, true, false, None, List, [], ◌∷◌, length, drop, get_or, refl, ap, sym, subst, ◌∙◌, arith}
use Rattle.std.specs.Prelude.{bytes_eq, ◌&&◌, nat_le}
use Rattle.std.proofs.lemmas.Bool.{agree_below_at, leb-true}
use Rattle.std.proofs.lemmas.Nat.{mod_below}
use Rattle.std.proofs.lemmas.Slice.Eq.{bytes_eq-Decides}
use Rattle.hpack.specs.declared.header.Header.{Header}
use Rattle.hpack.specs.declared.sought.Sought.{Sought}
use Rattle.hpack.specs.declared.sought.Sought.TheVariants.{Field, Name}
use Rattle.hpack.specs.declared.static_table.TheConstants.{FROM, TO}
use Rattle.hpack.specs.StaticTable.{static_table, field}
use Rattle.hpack.specs.StaticPieces.{piece}
use Rattle.hpack.specs.Encoding.{first_index}
use Rattle.hpack.specs.Sought.{passes}
use Rattle.hpack.specs.Spans.{IsSpan, key_of}
use Rattle.hpack.proofs.IndexLaws.{static_missed, static_none}

-- ---- the spans of the keys

key_small : (name : List ℕ) → key_of name < 128
unfolding key_of
key_small name = mod_below _ 128 (omega arith)

pub key_none : (name : List ℕ) → length name ≡ 0 → 0 ≡ key_of name
unfolding key_of
key_none [] none = refl
key_none (octet ∷ octets) none = absurd (omega (arith, none))

in_order : (key : ℕ) → key < 128 → get_or FROM key 0 ≤ get_or TO key 0
in_order key low = leb-true _ _ (agree_below_at (λ k. nat_le (get_or FROM k 0) (get_or TO k 0)) (λ k. true) 128 key refl low)

within : (key : ℕ) → key < 128 → get_or TO key 0 ≤ 61
within key low = leb-true _ _ (agree_below_at (λ k. nat_le (get_or TO k 0) 61) (λ k. true) 128 key refl low)

begun : (at : ℕ) → at < 61 → get_or FROM (key_of (piece (2 * at))) 0 ≤ at
unfolding key_of piece
begun at low = leb-true _ _ (agree_below_at (λ k. nat_le (get_or FROM (key_of (piece (2 * k))) 0) k) (λ k. true) 61 at refl low)

unended : (at : ℕ) → at < 61 → at + 1 ≤ get_or TO (key_of (piece (2 * at))) 0
unfolding key_of piece
unended at low = leb-true _ _ (agree_below_at (λ k. nat_le (k + 1) (get_or TO (key_of (piece (2 * k))) 0)) (λ k. true) 61 at refl low)

-- the span of a key is that of each name that has the key
pub span_is : (name : List ℕ) (key : ℕ) → key ≡ key_of name → IsSpan name (get_or FROM key 0) (get_or TO key 0)
span_is name key is =
    let low : key < 128 = subst (λ k. k < 128) (sym is) (key_small name) in
    record {
      order = in_order key low;
      within = within key low;
      all = λ at here same.
          let one : key_of (piece (2 * at)) ≡ key = ap key_of same ∙ sym is in
          (subst (λ k. get_or FROM k 0 ≤ at) one (begun at here), let e : at + 1 ≤ get_or TO key 0 = subst (λ k. at + 1 ≤ get_or TO k 0) one (unended at here) in omega (arith, e));
    }

-- ---- what is passed over

-- an entry of another name does not pass
other_name : (sought : Sought) (header : Header) (name value : List ℕ) → (name ≡ header.name → ⊥) → passes sought header (field name value) ≡ false
other_name sought header name value apart = of sought (bytes_eq name header.name) refl
  where
    of : (sought : Sought) (b : Bool) → bytes_eq name header.name ≡ b → passes sought header (field name value) ≡ false
    of sought true e = absurd (apart ((bytes_eq-Decides name header.name).0 e))
    of Field false e = ap (λ (b : Bool). b && bytes_eq value header.value) e
    of Name false e = e

before : (p : Header → Bool) (from : ℕ) → from ≤ 61 → ((at : ℕ) → at < from → p (field (piece (2 * at)) (piece (2 * at + 1))) ≡ false)
    → first_index p (from + 1) (drop from static_table) ≡ first_index p 1 static_table
before p zero low missed = refl
before p (suc from) low missed =
    ap (λ (k : ℕ). first_index p (k + 1) (drop k static_table)) (let k : suc from ≡ from + 1 = omega arith in k)
    ∙ sym (static_missed p from (omega (arith, low)) (missed from (omega arith)))
    ∙ before p from (omega (arith, low)) (λ at here. missed at (omega (arith, here)))

behind : (p : Header → Bool) (count to : ℕ) → to + count ≡ 61 → ((at : ℕ) → to ≤ at → at < 61 → p (field (piece (2 * at)) (piece (2 * at + 1))) ≡ false)
    → first_index p (to + 1) (drop to static_table) ≡ None
behind p zero to all missed = ap (λ (k : ℕ). first_index p (k + 1) (drop k static_table)) (let k : to ≡ 61 = omega (arith, all) in k) ∙ static_none p
behind p (suc count) to all missed =
    static_missed p to (omega (arith, all)) (missed to (omega arith) (omega (arith, all)))
    ∙ behind p count (to + 1) (omega (arith, all)) (λ at high low. missed at (omega (arith, high)) low)

-- the index among the entries from the beginning of the span on is that among all, and none has one behind it
pub span_begin : (sought : Sought) (header : Header) (from to : ℕ) → IsSpan header.name from to
    → first_index (passes sought header) (from + 1) (drop from static_table) ≡ first_index (passes sought header) 1 static_table
span_begin sought header from to span =
    before (passes sought header) from (omega (arith, span.order, span.within))
    (λ at low. other_name sought header (piece (2 * at)) (piece (2 * at + 1)) (λ same. let there = span.all at (omega (arith, low, span.order, span.within)) same in absurd (omega (arith, low, there.0))))

pub span_end : (sought : Sought) (header : Header) (from to : ℕ) → IsSpan header.name from to → first_index (passes sought header) (to + 1) (drop to static_table) ≡ None
span_end sought header from to span =
    let most : to ≤ 61 = span.within in
    behind (passes sought header) (61 - to) to (omega (arith, most))
    (λ at high low. other_name sought header (piece (2 * at)) (piece (2 * at + 1)) (λ same. let there = span.all at low same in absurd (omega (arith, high, there.1))))
