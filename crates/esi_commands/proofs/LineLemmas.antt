-- Lines and pieces of printed text.
use Rattle.std.proofs.Common.{◌≡◌, Bool, true, false, ℕ, ◌+◌, ◌-◌, ◌*◌, ◌^◌, ◌<◌, ◌≤◌, List, [], ◌∷◌, ◌++◌, length, take, drop, codes, refl, sym, ◌∙◌, ap, append_assoc, length-append, arith}
use Rattle.std.specs.Fmt.{decimal}
use Rattle.std.specs.List.{flat_map}
use Rattle.std.proofs.lemmas.Fmt.{length-decimal-le}
use Rattle.std.proofs.lemmas.Grind.{flat_map-append}
use Rattle.std.proofs.lemmas.List.{append-nil, drop_all, drop-drop, length-drop, take-append-drop, take_all}
use Rattle.small_text.specs.Hexadecimal.{hex_of}
use Rattle.esi_base.specs.Octets.{octets_of}
use Rattle.cycle_rules.specs.declared.transfer.Transfer.{Transfer}
use Rattle.cycle_rules.specs.Simulation.{Simulation}
use Rattle.esi_commands.specs.Output.{got_line, done_line, text_left}

length-hex_of : (octets : List ℕ) → length (hex_of octets) ≡ 2 * length octets
unfolding hex_of
length-hex_of [] = refl
length-hex_of (octet ∷ octets) = let e = length-hex_of octets in omega arith

-- a number of 64 bits has at most 20 digits
number_length : (n : ℕ) → n < 2 ^ 64 → length (decimal n) ≤ 20
number_length n h = length-decimal-le 20 n (omega arith) (omega arith) h

pub got_length : (transfer : Transfer) → transfer.cycle < 2 ^ 64 → length (octets_of transfer.word) ≤ 128 → length (got_line transfer) ≤ 300
got_length transfer cycle few =
    simp length-append (omega (arith, number_length transfer.cycle cycle, length-hex_of (octets_of transfer.word)))

pub done_length : {S : Type 0} (sim : Simulation S) → sim.cycles < 2 ^ 64 → length sim.taken < 2 ^ 64 → length sim.handed < 2 ^ 64 → length (done_line sim) ≤ 300
done_length sim cycles taken handed =
    simp length-append (omega (arith, number_length sim.cycles cycles, number_length (length sim.taken) taken, number_length (length sim.handed) handed))

regroup7 : (p a q b r c s : List ℕ) → p ++ (a ++ (q ++ (b ++ (r ++ (c ++ s))))) ≡ p ++ a ++ q ++ b ++ r ++ c ++ s
regroup7 p a q b r c s = simp append_assoc

pub done_pieces : (cycles taken handed cycles' taken' handed' : ℕ) → cycles ≡ cycles' → taken ≡ taken' → handed ≡ handed'
    → codes "done cycles " ++ (decimal cycles ++ (codes " taken " ++ (decimal taken ++ (codes " handed " ++ (decimal handed ++ codes "\n")))))
    ≡ codes "done cycles " ++ decimal cycles' ++ codes " taken " ++ decimal taken' ++ codes " handed " ++ decimal handed' ++ codes "\n"
done_pieces cycles taken handed cycles' taken' handed' p q r =
    regroup7 (codes "done cycles ") (decimal cycles) (codes " taken ") (decimal taken) (codes " handed ") (decimal handed) (codes "\n")
    ∙ ap (λ n. codes "done cycles " ++ decimal n ++ codes " taken " ++ decimal taken ++ codes " handed " ++ decimal handed ++ codes "\n") p
    ∙ ap (λ n. codes "done cycles " ++ decimal cycles' ++ codes " taken " ++ decimal n ++ codes " handed " ++ decimal handed ++ codes "\n") q
    ∙ ap (λ n. codes "done cycles " ++ decimal cycles' ++ codes " taken " ++ decimal taken' ++ codes " handed " ++ decimal n ++ codes "\n") r

-- ---- the lines that are left

-- the lines of some values stand before those of the others
lines_split : (handed : List Transfer) (printed count : ℕ) (rest : List ℕ)
    → flat_map got_line (drop printed handed) ++ rest ≡ flat_map got_line (take count (drop printed handed)) ++ (flat_map got_line (drop (printed + count) handed) ++ rest)
lines_split handed printed count rest =
    ap (λ (transfers : List Transfer). flat_map got_line transfers ++ rest) (sym (take-append-drop count (drop printed handed)))
    ∙ ap (λ (lines : List ℕ). lines ++ rest) (flat_map-append got_line (take count (drop printed handed)) (drop count (drop printed handed)))
    ∙ append_assoc (flat_map got_line (take count (drop printed handed))) (flat_map got_line (drop count (drop printed handed))) rest
    ∙ ap (λ (transfers : List Transfer). flat_map got_line (take count (drop printed handed)) ++ (flat_map got_line transfers ++ rest)) (drop-drop count printed handed)

-- what stands after some values, cut at the end, is what stands after them
pub behind_all : (piece : List ℕ) (handed : List Transfer) (printed count : ℕ) → piece ≡ flat_map got_line (take count (take (length handed - printed) (drop printed handed)))
    → piece ≡ flat_map got_line (take count (drop printed handed))
behind_all piece handed printed count lines =
    lines ∙ ap (λ (transfers : List Transfer). flat_map got_line (take count transfers)) (take_all (length handed - printed) (drop printed handed) (omega (arith, length-drop printed handed)))

-- the lines in a piece stand before those that are left then,
pub piece_more : {S : Type 0} (sim : Simulation S) (printed : ℕ) (is_done : Bool) (piece : List ℕ) (count : ℕ) → is_done ≡ false → piece ≡ flat_map got_line (take count (drop printed sim.handed))
    → text_left sim printed is_done ≡ piece ++ text_left sim (printed + count) is_done
piece_more sim printed true piece count not_done lines = absurd (cc not_done)
piece_more sim printed false piece count not_done lines = lines_split sim.handed printed count (done_line sim) ∙ ap (λ p. p ++ text_left sim (printed + count) false) (sym lines)

-- and where no value is left, before the last line
pub piece_last : {S : Type 0} (sim : Simulation S) (printed : ℕ) (is_done : Bool) (piece : List ℕ) (count : ℕ) → is_done ≡ false → piece ≡ flat_map got_line (take count (drop printed sim.handed))
    → length sim.handed ≤ printed + count → text_left sim printed is_done ≡ piece ++ done_line sim
piece_last sim printed is_done piece count not_done lines at_end =
    piece_more sim printed is_done piece count not_done lines
    ∙ ap (λ d. piece ++ text_left sim (printed + count) d) not_done
    ∙ ap (λ (transfers : List Transfer). piece ++ (flat_map got_line transfers ++ done_line sim)) (drop_all (printed + count) sim.handed at_end)

-- something is left until all was printed
pub some_left : {S : Type 0} (sim : Simulation S) (printed : ℕ) (is_done : Bool) (behind : List ℕ) → is_done ≡ false → 0 < length (text_left sim printed is_done ++ behind)
some_left sim printed true behind not_done = absurd (cc not_done)
some_left sim printed false behind not_done = simp length-append (omega arith)

-- what was left is the whole piece, and nothing after it
pub whole_piece : (left piece prefix last : List ℕ) → piece ≡ prefix ++ last → left ≡ prefix ++ last → left ≡ piece ++ []
whole_piece left piece prefix last is all = all ∙ sym is ∙ sym (append-nil piece)
