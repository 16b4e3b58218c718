-- How many octets a varint takes, counted group by group.
use Rattle.std.specs.Prelude.{◌≡◌, ℕ, zero, suc, ◌+◌, ◌/◌, ◌^◌, ◌<◌, ◌≤◌, length, refl}
use Rattle.std.proofs.Common.{arith}
use Rattle.std.proofs.lemmas.Bool.{lt-ltb, le-ltb}
use Rattle.proto_wire.specs.Written.{groups_of, varint_of}
use Rattle.proto_wire.specs.WrittenLaws.{room_of}

-- the groups of what is left, and those that were counted, are all
pub record Counting (value len left : ℕ) : Type 0 where
  pub before : ℕ
  pub room : left < room_of before
  pub same : len + length (groups_of before left) ≡ 1 + length (varint_of value)
  pub short : len + before ≡ 10

pub counting_begun : (value : ℕ) → value < 2 ^ 64 → Counting value 1 value
unfolding varint_of
counting_begun value h = record { before = 9; room = omega arith; same = refl; short = refl }

one_group : (before n : ℕ) → n < 128 → length (groups_of before n) ≡ 1
unfolding groups_of
one_group zero n h = refl
one_group (suc before) n h = rw (lt-ltb n 128 h) refl

more_groups : (before n : ℕ) → 128 ≤ n → length (groups_of (suc before) n) ≡ suc (length (groups_of before (n / 128)))
unfolding groups_of
more_groups before n h = rw (le-ltb n 128 h) refl

counting_on : (before value len left : ℕ) → left < room_of before → len + length (groups_of before left) ≡ 1 + length (varint_of value) → len + before ≡ 10 → 128 ≤ left → Counting value (len + 1) (left / 128)
counting_on zero value len left room same short h = absurd (omega arith)
counting_on (suc before) value len left room same short h =
    let more = more_groups before left h in
    record { before = before; room = omega arith; same = omega (arith, more, same); short = omega arith }

pub counting_more : (value len left : ℕ) → Counting value len left → 128 ≤ left → Counting value (len + 1) (left / 128)
counting_more value len left c h = counting_on c.before value len left c.room c.same c.short h

pub counting_ended : (value len left : ℕ) → Counting value len left → left < 128 → (len ≡ length (varint_of value)) × (len ≤ 10)
counting_ended value len left c h =
    let one = one_group c.before left h in
    let same = c.same in
    let short = c.short in
    (omega (arith, one, same), omega arith)
