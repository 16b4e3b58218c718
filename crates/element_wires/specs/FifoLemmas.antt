-- The cycle of a fifo from its wires.
use Rattle.std.specs.Prelude.{◌≡◌, ℕ, zero, suc, ◌+◌, ◌-◌, ◌*◌, ◌%◌, ◌^◌, ◌<◌, ◌≤◌, ◌==◌, ◌&&◌, nat_lt, Bool, true, false, not, List, [], ◌∷◌, ◌++◌, length, take, if◌then◌else◌, refl}
use Rattle.std.proofs.Common.{sym, ◌∙◌, ap, subst, append_assoc, arith}
use Rattle.std.proofs.lemmas.Bool.Decides.{nat_tests}
use Rattle.std.proofs.lemmas.List.{append-nil}
use Rattle.std.proofs.lemmas.Nat.{mod_low}
use Rattle.element_laws.specs.Signals.{Bits, Signals, is_transfer, offered, transferred, ReadsHeld}
use Rattle.element_laws.specs.Histories.{Always, IsRun}
use Rattle.element_laws.specs.Elements.{StorageCycle}
use Rattle.element_wires.specs.Wires.{FifoRegisters, slot, firsts, fifo_words, one, unread, moved_up, FifoWires, FifoFits}
use Rattle.element_wires.specs.WireLaws.{holding, FifosRun}
use Rattle.element_wires.specs.WireLemmas.{part_runs}

-- ---- the first values of a function

length_firsts : {A : Type 0} (f : ℕ → A) (n : ℕ) → length (firsts f n) ≡ n
length_firsts f zero = refl
length_firsts f (suc n) = ap suc (length_firsts (λ i. f (suc i)) n)

firsts_same : {A : Type 0} (f g : ℕ → A) (n : ℕ) → ((i : ℕ) → i < n → f i ≡ g i) → firsts f n ≡ firsts g n
firsts_same f g zero e = refl
firsts_same f g (suc n) e = ap (λ x. x ∷ firsts (λ i. f (suc i)) n) (e zero (omega arith)) ∙ ap (λ xs. g zero ∷ xs) (firsts_same (λ i. f (suc i)) (λ i. g (suc i)) n (λ i h. e (suc i) (omega arith)))

firsts_more : {A : Type 0} (f : ℕ → A) (n : ℕ) → firsts f (suc n) ≡ firsts f n ++ f n ∷ []
firsts_more f zero = refl
firsts_more f (suc n) = ap (λ xs. f zero ∷ xs) (firsts_more (λ i. f (suc i)) n)

-- the words that stay, and one more where a word is put
firsts_put : (old new : ℕ → Bits) (left next : ℕ) (put : Bool) (word : Bits) → ((i : ℕ) → i < left → new i ≡ old i) → (put ≡ true → new left ≡ word) → next ≡ left + one put
    → firsts new next ≡ firsts old left ++ (if put then word ∷ [] else [])
firsts_put old new left next true word stay put e =
    ap (firsts new) (let f : next ≡ suc left = omega arith in f)
    ∙ firsts_more new left ∙ ap (λ xs. xs ++ new left ∷ []) (firsts_same new old left stay) ∙ ap (λ w. firsts old left ++ w ∷ []) (put refl)
firsts_put old new left next false word stay put e =
    ap (firsts new) (let f : next ≡ left = omega arith in f) ∙ firsts_same new old left stay ∙ sym (append-nil (firsts old left))

-- the word that is read, and those that move up
firsts_read : (old up : ℕ → Bits) (count left : ℕ) (read : Bool) → (read ≡ true → 0 < count) → left ≡ count - one read
    → ((i : ℕ) → i < left → up i ≡ (if read then old (suc i) else old i)) → firsts old count ≡ (if read then old 0 ∷ [] else []) ++ firsts up left
firsts_read old up zero left true some e moves = absurd (let h : 0 < 0 = some refl in omega arith)
firsts_read old up (suc count) left true some e moves =
    let f : left ≡ count = omega arith in
    ap (λ xs. old 0 ∷ xs) (firsts_same (λ i. old (suc i)) up count (λ i h. sym (moves i (omega arith))) ∙ ap (firsts up) (sym f))
firsts_read old up count left false some e moves =
    let f : left ≡ count = omega arith in firsts_same old up count (λ i h. sym (moves i (omega arith))) ∙ ap (firsts up) (sym f)

-- ---- the count

-- what a fifo's count is in a cycle in which it is read well
record Counts (depth count left next : ℕ) (put read : Bool) : Type 0 where
  left_is : left ≡ count - one read
  next_is : next ≡ left + one put
  some : read ≡ true → 0 < count
  room : put ≡ true → count < depth
  within : next ≤ depth

unread_is : (width count : ℕ) (read : Bool) → count < 2 ^ width → (read ≡ true → 0 < count) → (count + 2 ^ width - one read) % 2 ^ width ≡ count - one read
unread_is width count true below some =
    let h : 0 < count = some refl in
    ap (λ n. n % 2 ^ width) (let e : count + 2 ^ width - 1 ≡ 1 * 2 ^ width + (count - 1) = omega arith in e) ∙ mod_low 1 width (count - 1) (omega arith)
unread_is width count false below some =
    ap (λ n. n % 2 ^ width) (let e : count + 2 ^ width - 0 ≡ 1 * 2 ^ width + (count - 0) = omega arith in e) ∙ mod_low 1 width (count - 0) (omega arith)

put_is : (width n : ℕ) → n < 2 ^ width → n % 2 ^ width ≡ n
put_is width n below = ap (λ m. m % 2 ^ width) (let e : n ≡ 0 * 2 ^ width + n = omega arith in e) ∙ mod_low 0 width n below

one_most : (b : Bool) → one b ≤ 1
one_most true = omega arith
one_most false = omega arith

-- where a word is put there was room
put_room : (depth count : ℕ) (valid ready : Bool) → ready ≡ not (count == depth) → count ≤ depth → (valid && ready) ≡ true → count < depth
put_room depth count true true e within h = grind (arith, nat_tests)
put_room depth count true false e within h = absurd (cc)
put_room depth count false ready e within h = absurd (cc)

-- where a word is read there was one
read_some : (count : ℕ) (valid : Bool) → valid ≡ not (count == 0) → valid ≡ true → 0 < count
read_some count valid e h = grind (arith, nat_tests)

after_put : (depth count left : ℕ) (put : Bool) → left ≤ count → count ≤ depth → (put ≡ true → count < depth) → left + one put ≤ depth
after_put depth count left true less within room = let h : count < depth = room refl in omega arith
after_put depth count left false less within room = omega arith

module _ (depth width : ℕ) (now next : FifoRegisters) (input output : Signals) (fits : FifoFits depth width) (within : now.count ≤ depth) (reads : ReadsHeld output)
    (wires : FifoWires depth width now next input output) where
  counts : Counts depth now.count (unread width now output) next.count (is_transfer input) output.ready
  counts =
      let below : depth < 2 ^ width = fits.fits in
      let some : output.ready ≡ true → 0 < now.count = λ r. read_some now.count output.valid wires.valid (reads.valid r) in
      let left : unread width now output ≡ now.count - one output.ready = unread_is width now.count output.ready (omega arith) some in
      let room : is_transfer input ≡ true → now.count < depth = λ p. put_room depth now.count input.valid input.ready wires.ready within p in
      let most : unread width now output + one (is_transfer input) ≤ depth = after_put depth now.count (unread width now output) (is_transfer input) (omega arith) within room in
      let next_is : next.count ≡ unread width now output + one (is_transfer input) = wires.next_count ∙ put_is width (unread width now output + one (is_transfer input)) (omega arith) in
      record { left_is = left; next_is = next_is; some = some; room = room; within = omega arith }

  stay : (i : ℕ) → i < unread width now output → slot next i ≡ moved_up depth now output i
  stay i h =
      let least : unread width now output ≤ now.count = omega (arith, counts.left_is) in
      wires.next_slot i (omega arith)
      ∙ ap (λ b. if is_transfer input && b then input.word else moved_up depth now output i) (let e : (unread width now output == i) ≡ false = grind (arith, nat_tests) in e)
      ∙ not_here (is_transfer input)
    where
      not_here : (put : Bool) → (if put && false then input.word else moved_up depth now output i) ≡ moved_up depth now output i
      not_here true = refl
      not_here false = refl

  put_here : is_transfer input ≡ true → slot next (unread width now output) ≡ input.word
  put_here p =
      let place : unread width now output < depth = omega (arith, counts.left_is, counts.room p) in
      wires.next_slot (unread width now output) place
      ∙ ap (λ b. if b && (unread width now output == unread width now output) then input.word else moved_up depth now output (unread width now output)) p
      ∙ ap (λ b. if b then input.word else moved_up depth now output (unread width now output)) (let e : (unread width now output == unread width now output) ≡ true = grind (arith, nat_tests) in e)

  up : (i : ℕ) → i < unread width now output → moved_up depth now output i ≡ (if output.ready then slot now (suc i) else slot now i)
  up i h = by_cases output.ready refl
    where
      by_cases : (read : Bool) → output.ready ≡ read → (if nat_lt (suc i) depth && read then slot now (suc i) else slot now i) ≡ (if read then slot now (suc i) else slot now i)
      by_cases true r =
          ap (λ b. if b && true then slot now (suc i) else slot now i)
          (let above : suc i < depth = omega (arith, counts.left_is, ap one r) in let e : nat_lt (suc i) depth ≡ true = grind (arith, nat_tests) in e)
      by_cases false r = none (nat_lt (suc i) depth)
        where
          none : (b : Bool) → (if b && false then slot now (suc i) else slot now i) ≡ slot now i
          none true = refl
          none false = refl

  offers_first : (count : ℕ) → output.valid ≡ not (count == 0) → offered output ≡ take 1 (firsts (slot now) count)
  offers_first zero v = ap (λ b. if b then output.word ∷ [] else []) v
  offers_first (suc n) v =
      ap (λ b. if b then output.word ∷ [] else []) (v ∙ (let e : not (suc n == 0) ≡ true = grind (arith, nat_tests) in e)) ∙ ap (λ w. w ∷ []) wires.word

  ready_below : input.ready ≡ nat_lt (length (fifo_words now)) depth
  ready_below = wires.ready ∙ (let e : not (now.count == depth) ≡ nat_lt now.count depth = test in e) ∙ ap (λ n. nat_lt n depth) (sym (length_firsts (slot now) now.count))
    where
      test : not (now.count == depth) ≡ nat_lt now.count depth
      test = grind (arith, nat_tests)

  read_word : (if output.ready then slot now 0 ∷ [] else []) ≡ transferred output
  read_word = ap (λ w. if output.ready then w ∷ [] else []) (sym wires.word) ∙ by_cases output.valid output.ready reads.valid
    where
      by_cases : (valid ready : Bool) → (ready ≡ true → valid ≡ true) → (if ready then output.word ∷ [] else []) ≡ (if valid && ready then output.word ∷ [] else [])
      by_cases true true h = refl
      by_cases true false h = refl
      by_cases false true h = absurd (let e : false ≡ true = h refl in cc)
      by_cases false false h = refl

  pub fifo_stores : StorageCycle depth (fifo_words now) (fifo_words next) input output
  fifo_stores = record {
    offers = offers_first now.count wires.valid;
    ready = ready_below;
    next =
        ap (λ ws. ws ++ transferred input) (firsts_read (slot now) (moved_up depth now output) now.count (unread width now output) output.ready counts.some counts.left_is up)
        ∙ append_assoc (if output.ready then slot now 0 ∷ [] else []) (firsts (moved_up depth now output) (unread width now output)) (transferred input)
        ∙ ap (λ ws. (if output.ready then slot now 0 ∷ [] else []) ++ ws)
        (sym (firsts_put (moved_up depth now output) (slot next) (unread width now output) next.count (is_transfer input) input.word stay put_here counts.next_is))
        ∙ ap (λ ws. ws ++ fifo_words next) read_word;
  }

  pub count_within : next.count ≤ depth
  count_within = counts.within

-- the count never passes the depth
record IsWithin (depth : ℕ) (r : FifoRegisters) : Type 0 where
  within : r.count ≤ depth

-- two facts of each cycle of a run
run_and : {C S : Type 0} (P Q : C → Type 0) (before after : C → S) (start : S) (history : List C) → IsRun P before after start history → Always Q history → IsRun (λ cycle. P cycle × Q cycle) before after start history
run_and P Q before after start [] run all = tt
run_and P Q before after start (cycle ∷ earlier) run all = ((run.0, all.0), run.1, run_and P Q before after start earlier run.2 all.1)

pub fifos_run : {C : Type 0} → FifosRun C
fifos_run depth width before after start input output history fits none run reads =
    let empty : fifo_words start ≡ [] = ap (firsts (slot start)) none in
    let both = part_runs (λ cycle. FifoWires depth width (before cycle) (after cycle) (input cycle) (output cycle) × ReadsHeld (output cycle))
    (λ cycle. StorageCycle depth (fifo_words (before cycle)) (fifo_words (after cycle)) (input cycle) (output cycle)) before after start (IsWithin depth) (λ r. holding (fifo_words r))
    (record { within = omega arith })
    (λ cycle each kept. fifo_stores depth width (before cycle) (after cycle) (input cycle) (output cycle) fits kept.within each.1 each.0)
    (λ cycle each kept. record { within = count_within depth width (before cycle) (after cycle) (input cycle) (output cycle) fits kept.within each.1 each.0 })
    history
    (run_and (λ cycle. FifoWires depth width (before cycle) (after cycle) (input cycle) (output cycle)) (λ cycle. ReadsHeld (output cycle)) before after start history run reads) in
    record {
      runs = subst (λ words. IsRun (λ cycle. StorageCycle depth (fifo_words (before cycle)) (fifo_words (after cycle)) (input cycle) (output cycle))
          (λ cycle. holding (fifo_words (before cycle))) (λ cycle. holding (fifo_words (after cycle))) (holding words) history) empty both.0;
      within = both.1.within;
    }
