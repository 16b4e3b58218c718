-- What is written is read again: a varint as its number, a field as that field, whatever stands before and after.
use Rattle.std.specs.Prelude.{◌≡◌, ℕ, zero, suc, ◌+◌, ◌-◌, ◌*◌, ◌/◌, ◌%◌, ◌^◌, ◌<◌, ◌≤◌, ◌⊎◌, List, [], ◌∷◌, ◌++◌, length, take, drop, slice_range, Result, Ok, Err, OnOk, refl}
use Rattle.std.proofs.Common.{sym, ◌∙◌, ap, subst, inl, inr, arith, lit<, le_refl}
use Rattle.std.proofs.lemmas.Bool.{lt-ltb, le-ltb, cases_lt}
use Rattle.std.proofs.lemmas.List.{append_assoc, length-append, length-take, take_all, take-append-le, take_at, drop_at}
use Rattle.proto_wire.specs.declared.limit.TheConstants.{GREATEST_FIELD_NUMBER, VARINT_TYPE, SPAN_TYPE}
use Rattle.proto_wire.specs.Varint.{number_of_groups, IsChain}
use Rattle.proto_wire.specs.Fields.{IsKey, IsFieldAt}
use Rattle.proto_wire.specs.Written.{groups_of, varint_of, IsShortestVarint, key_of, varint_field, span_field, varint_field_at, span_begins, span_field_at}

-- numbers below this one have so many groups, and one more
abbrev pub room_of : ℕ → ℕ
room_of zero = 128
room_of (suc before) = 128 * room_of before

one_group : (before n : ℕ) → n < 128 → groups_of (suc before) n ≡ n ∷ []
unfolding groups_of
one_group before n h = rw (lt-ltb n 128 h) refl

more_groups : (before n : ℕ) → 128 ≤ n → groups_of (suc before) n ≡ (n % 128 + 128) ∷ groups_of before (n / 128)
unfolding groups_of
more_groups before n h = rw (le-ltb n 128 h) refl

last_group : (n : ℕ) → groups_of zero n ≡ n ∷ []
unfolding groups_of
last_group n = refl

-- octets are the groups of a number
record AreGroups (octets : List ℕ) (before n : ℕ) : Type 0 where
  chain : IsChain octets
  number : number_of_groups octets ≡ n
  short : length octets ≤ before + 1
  shortest : (others : List ℕ) → IsChain others → number_of_groups others ≡ n → length octets ≤ length others

some_octet : (others : List ℕ) → IsChain others → 1 ≤ length others
unfolding IsChain
some_octet [] h = absurd h
some_octet (octet ∷ others) h = omega arith

one_is : (before n : ℕ) → n < 128 → AreGroups (n ∷ []) before n
unfolding IsChain number_of_groups
one_is before n h = record { chain = inl (h, refl); number = omega arith; short = omega arith; shortest = λ others c e. some_octet others c }

longer : (before n : ℕ) (groups : List ℕ) → 128 ≤ n → AreGroups groups before (n / 128) → (others : List ℕ) → IsChain others → number_of_groups others ≡ n → suc (length groups) ≤ length others
unfolding IsChain number_of_groups
longer before n groups h g [] c e = absurd c
longer before n groups h g (octet ∷ others) (inl (small, none)) e =
    let nothing : number_of_groups others ≡ 0 = ap number_of_groups none in absurd (omega arith)
longer before n groups h g (octet ∷ others) (inr (great, c)) e =
    let above : number_of_groups others ≡ n / 128 = omega arith in
    let k = g.shortest others c above in
    omega arith

more_is : (before n : ℕ) (groups : List ℕ) → 128 ≤ n → AreGroups groups before (n / 128) → AreGroups ((n % 128 + 128) ∷ groups) (suc before) n
unfolding IsChain number_of_groups
more_is before n groups h g =
    let number = g.number in
    let short = g.short in
    record {
      chain = inr (omega arith, g.chain);
      number = omega arith;
      short = omega arith;
      shortest = longer before n groups h g;
    }

-- the groups that are written
are_groups : (before n : ℕ) → n < room_of before → AreGroups (groups_of before n) before n
are_groups zero n h = rw (last_group n) (one_is zero n h)
are_groups (suc before) n h = of (λ e. are_groups before (n / 128) e) (cases_lt n 128)
  where
    of : (n / 128 < room_of before → AreGroups (groups_of before (n / 128)) before (n / 128)) → ((n < 128) ⊎ (128 ≤ n)) → AreGroups (groups_of (suc before) n) (suc before) n
    of following (inl small) = rw (one_group before n small) (one_is (suc before) n small)
    of following (inr great) = rw (more_groups before n great) (more_is before n (groups_of before (n / 128)) great (following (omega arith)))

-- the varint that is written is one of the number, and none is shorter
pub varint_again : (value : ℕ) → value < 2 ^ 64 → IsShortestVarint (varint_of value) value
unfolding varint_of
varint_again value h =
    let fits : value < room_of 9 = omega arith in
    let g = are_groups 9 value fits in
    record {
      varint = record { chain = g.chain; short = g.short; number = sym g.number; fits = h };
      shortest = λ others v. g.shortest others v.chain (sym v.number);
    }

key_again : (number wire : ℕ) → 1 ≤ number → number ≤ GREATEST_FIELD_NUMBER → wire < 8 → IsKey (key_of number wire) number wire
key_again number wire least most small = record { varint = (varint_again (8 * number + wire) (omega arith)).varint; wire_is = small; least = least; most = most }

-- a varint field that is written is read again
pub varint_field_again : (before rest : List ℕ) (number value : ℕ) → 1 ≤ number → number ≤ GREATEST_FIELD_NUMBER → value < 2 ^ 64
    → IsFieldAt (before ++ (varint_field number value ++ rest)) (length before) (varint_field_at (length before) number value)
unfolding varint_field
varint_field_again before rest number value least most fits =
    record {
      key = key_of number VARINT_TYPE;
      value = varint_of value;
      rest = rest;
      parts = drop_at before (varint_field number value ++ rest) (length before) refl ∙ append_assoc (key_of number VARINT_TYPE) (varint_of value) rest;
      key_is = key_again number VARINT_TYPE least most (lit< tt);
      value_is = (varint_again value fits).varint;
      after_is = let both = length-append (key_of number VARINT_TYPE) (varint_of value) in omega arith;
    }

-- a span that is written is read again
pub span_field_again : (before rest : List ℕ) (number : ℕ) (content : List ℕ) → 1 ≤ number → number ≤ GREATEST_FIELD_NUMBER → length content < 2 ^ 64
    → IsFieldAt (before ++ (span_field number content ++ rest)) (length before) (span_field_at (length before) number content)
unfolding span_field
span_field_again before rest number content least most fits =
    let key = length-append (key_of number SPAN_TYPE) (varint_of (length content) ++ content) in
    let value = length-append (varint_of (length content)) content in
    record {
      key = key_of number SPAN_TYPE;
      value = varint_of (length content) ++ content;
      rest = rest;
      parts = drop_at before (span_field number content ++ rest) (length before) refl ∙ append_assoc (key_of number SPAN_TYPE) (varint_of (length content) ++ content) rest;
      key_is = key_again number SPAN_TYPE least most (lit< tt);
      value_is = record {
        len = varint_of (length content);
        content = content;
        parts = refl;
        varint = (varint_again (length content) fits).varint;
        from_is = refl;
        to_is = omega arith;
      };
      after_is = omega arith;
    }

-- its octets are those that were written
pub span_field_content : (before rest : List ℕ) (number : ℕ) (content : List ℕ)
    → slice_range (before ++ (span_field number content ++ rest)) (span_begins (length before) number content) (length before + length (span_field number content)) ≡ content
unfolding span_field
span_field_content before rest number content =
    let key = length-append (key_of number SPAN_TYPE) (varint_of (length content) ++ content) in
    let value = length-append (varint_of (length content)) content in
    let front = before ++ (key_of number SPAN_TYPE ++ varint_of (length content)) in
    let front_len : length front ≡ length before + length (key_of number SPAN_TYPE) + length (varint_of (length content))
    = length-append before (key_of number SPAN_TYPE ++ varint_of (length content)) ∙ ap (λ n. length before + n) (length-append (key_of number SPAN_TYPE) (varint_of (length content))) ∙ omega arith in
    let parts : before ++ (span_field number content ++ rest) ≡ front ++ (content ++ rest)
    = ap (λ xs. before ++ xs) (append_assoc (key_of number SPAN_TYPE) (varint_of (length content) ++ content) rest
    ∙ ap (λ xs. key_of number SPAN_TYPE ++ xs) (append_assoc (varint_of (length content)) content rest)
    ∙ sym (append_assoc (key_of number SPAN_TYPE) (varint_of (length content)) (content ++ rest)))
    ∙ sym (append_assoc before (key_of number SPAN_TYPE ++ varint_of (length content)) (content ++ rest)) in
    let count : length before + length (span_field number content) - (length before + length (key_of number SPAN_TYPE) + length (varint_of (length content))) ≡ length content = omega arith in
    ap (λ n. take n (drop (length before + length (key_of number SPAN_TYPE) + length (varint_of (length content))) (before ++ (span_field number content ++ rest)))) count
    ∙ ap (λ xs. take (length content) (drop (length before + length (key_of number SPAN_TYPE) + length (varint_of (length content))) xs)) parts
    ∙ ap (λ xs. take (length content) xs) (drop_at front (content ++ rest) (length before + length (key_of number SPAN_TYPE) + length (varint_of (length content))) front_len)
    ∙ take_at content rest (length content) refl

-- Fields that are written are read again, whatever stands before and after them.
pub record FieldsAgain : Type 0 where
  pub varint : (before rest : List ℕ) (number value : ℕ) → 1 ≤ number → number ≤ GREATEST_FIELD_NUMBER → value < 2 ^ 64
      → IsFieldAt (before ++ (varint_field number value ++ rest)) (length before) (varint_field_at (length before) number value)
  pub span : (before rest : List ℕ) (number : ℕ) (content : List ℕ) → 1 ≤ number → number ≤ GREATEST_FIELD_NUMBER → length content < 2 ^ 64
      → IsFieldAt (before ++ (span_field number content ++ rest)) (length before) (span_field_at (length before) number content)
  pub content : (before rest : List ℕ) (number : ℕ) (content : List ℕ)
      → slice_range (before ++ (span_field number content ++ rest)) (span_begins (length before) number content) (length before + length (span_field number content)) ≡ content

pub fields_again : FieldsAgain
fields_again = record { varint = varint_field_again; span = span_field_again; content = span_field_content }

-- A loop that writes a varint: what is written, and the groups of what is left, are those of the whole.
pub record Writing (start : List ℕ) (value : ℕ) (out : List ℕ) (left : ℕ) : Type 0 where
  pub before : ℕ
  pub room : left < room_of before
  pub front : take (length start) out ≡ start
  pub same : out ++ groups_of before left ≡ start ++ varint_of value

pub writing_begun : (start : List ℕ) (value : ℕ) → value < 2 ^ 64 → Writing start value start value
unfolding varint_of
writing_begun start value h = record { before = 9; room = omega arith; front = take_all (length start) start (le_refl (length start)); same = refl }

front_kept : (start out more : List ℕ) → take (length start) out ≡ start → take (length start) (out ++ more) ≡ start
front_kept start out more e =
    let len = ap length e ∙ refl in
    let within : length start ≤ length out = let l = length-take (length start) out in omega arith in
    take-append-le (length start) out more within ∙ e

writing_on : (before : ℕ) (start : List ℕ) (value : ℕ) (out : List ℕ) (left : ℕ) → left < room_of before → take (length start) out ≡ start
    → out ++ groups_of before left ≡ start ++ varint_of value → 128 ≤ left → Writing start value (out ++ (left % 128 + 128) ∷ []) (left / 128)
writing_on zero start value out left room front same h = absurd (omega arith)
writing_on (suc before) start value out left room front same h =
    record {
      before = before;
      room = omega arith;
      front = front_kept start out ((left % 128 + 128) ∷ []) front;
      same = append_assoc out ((left % 128 + 128) ∷ []) (groups_of before (left / 128)) ∙ ap (λ xs. out ++ xs) (sym (more_groups before left h)) ∙ same;
    }

-- a group is written
pub writing_more : (start : List ℕ) (value : ℕ) (out : List ℕ) (left : ℕ) → Writing start value out left → 128 ≤ left → Writing start value (out ++ (left % 128 + 128) ∷ []) (left / 128)
writing_more start value out left w h = writing_on w.before start value out left w.room w.front w.same h

last_of : (before n : ℕ) → n < 128 → groups_of before n ≡ n ∷ []
last_of zero n h = last_group n
last_of (suc before) n h = one_group before n h

-- the last one is written
pub writing_ended : (start : List ℕ) (value : ℕ) (out : List ℕ) (left : ℕ) → Writing start value out left → left < 128 → out ++ left ∷ [] ≡ start ++ varint_of value
writing_ended start value out left w h = ap (λ xs. out ++ xs) (sym (last_of w.before left h)) ∙ w.same

-- a span that was added is read again, whatever follows
pub added_again : {A E : Type 0} (result : Result A E) (old new : List ℕ) (number : ℕ) (content : List ℕ) → 1 ≤ number → number ≤ GREATEST_FIELD_NUMBER → length content < 2 ^ 64
    → OnOk result (new ≡ old ++ span_field number content)
    → OnOk result ((rest : List ℕ) → IsFieldAt (new ++ rest) (length old) (span_field_at (length old) number content))
added_again (Ok x) old new number content least most small e =
    λ rest. subst (λ xs. IsFieldAt xs (length old) (span_field_at (length old) number content))
    (sym (append_assoc old (span_field number content) rest) ∙ ap (λ xs. xs ++ rest) (sym e))
    (span_field_again old rest number content least most small)
added_again (Err x) old new number content least most small e = tt

-- a key, a length and as many octets, added one after another, are a span
pub span_added : (old keyed counted new : List ℕ) (key number : ℕ) (content : List ℕ) → key ≡ number → keyed ≡ old ++ varint_of (8 * key + SPAN_TYPE) → counted ≡ keyed ++ varint_of (length content)
    → new ≡ counted ++ content → new ≡ old ++ span_field number content
unfolding span_field
span_added old keyed counted new key number content k a b c =
    c ∙ ap (λ xs. xs ++ content) (b ∙ ap (λ xs. xs ++ varint_of (length content)) (a ∙ ap (λ n. old ++ varint_of (8 * n + SPAN_TYPE)) k))
    ∙ append_assoc (old ++ key_of number SPAN_TYPE) (varint_of (length content)) content
    ∙ append_assoc old (key_of number SPAN_TYPE) (varint_of (length content) ++ content)
