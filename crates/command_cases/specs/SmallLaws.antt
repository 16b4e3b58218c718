-- The laws of the small command.
use Rattle.std.proofs.Common.{◌≡◌, ℕ, ◌+◌, ◌==◌, nat_lt, Bool, true, false, if◌then◌else◌, List, [], ◌∷◌, length, take, Ok, Err, codes, inl, inr, refl, sym, ◌∙◌, ap, arith}
use Rattle.std.proofs.lemmas.List.{length-take, take_all}
use Rattle.std.proofs.lemmas.Bool.{cases_lt, lt-ltb}
use Rattle.command_runs.specs.Account.{Among, cut_texts}
use Rattle.command_runs.specs.Statuses.{status_of_end}
use Rattle.command_runs.specs.Work.{Work}
use Rattle.command_runs.specs.declared.finish.End.{End}
use Rattle.command_runs.specs.declared.finish.End.TheVariants.{Done, LinkFault, PeerFault, PeerStatus, Unfinished, TurnsSpent}
use Rattle.command_cases.specs.declared.small.TheConstants.{LONGEST_TEXT}
use Rattle.command_cases.specs.SmallCommand.{small_meaning, too_long, effects_by, end_of}

-- a test for more than the limit comes out alike on a text and on its prefix up to one octet more
cut_text : {A : Type 0} (limit : ℕ) (text : List ℕ) (long : A) (meaning : List ℕ → A)
    → (if nat_lt limit (length (take (limit + 1) text)) then long else meaning (take (limit + 1) text)) ≡ (if nat_lt limit (length text) then long else meaning text)
cut_text limit text long meaning =
    elim (cases_lt limit (length text)) [
      | inl above ↦
          ap (λ b. if b then long else meaning (take (limit + 1) text)) (lt-ltb limit (length (take (limit + 1) text)) (omega (arith, length-take (limit + 1) text)))
          ∙ sym (ap (λ b. if b then long else meaning text) (lt-ltb limit (length text) above))
      | inr within ↦ ap (λ t. if nat_lt limit (length t) then long else meaning t) (take_all (limit + 1) text (omega arith))
    ]

-- what stands above the limits changes nothing
pub small_cut : (texts : List (List ℕ)) → small_meaning (cut_texts (LONGEST_TEXT ∷ LONGEST_TEXT ∷ []) texts) ≡ small_meaning texts
small_cut [] = refl
small_cut (first ∷ []) = refl
small_cut (first ∷ second ∷ others) =
    cut_text LONGEST_TEXT first (Err (too_long 0)) (λ f. if nat_lt LONGEST_TEXT (length (take (LONGEST_TEXT + 1) second)) then Err (too_long 1) else Ok (effects_by f (take (LONGEST_TEXT + 1) second)))
    ∙ ap (λ (work : Work). if nat_lt LONGEST_TEXT (length first) then Err (too_long 0) else work) (cut_text LONGEST_TEXT second (Err (too_long 1)) (λ s. Ok (effects_by first s)))

choice : (b : Bool) (x y : End) (ns : List ℕ) → Among (status_of_end x) ns → Among (status_of_end y) ns → Among (status_of_end (if b then x else y)) ns
choice true x y ns p q = p
choice false x y ns p q = q

-- the statuses to which it comes
pub small_ends : (second : List ℕ) → Among (status_of_end (end_of second)) (0 ∷ 5 ∷ 6 ∷ 7 ∷ 9 ∷ [])
small_ends [] = inl refl
small_ends (octet ∷ rest) =
    choice (octet == 53) LinkFault _ (0 ∷ 5 ∷ 6 ∷ 7 ∷ 9 ∷ []) (inr (inl refl))
    (choice (octet == 54) (PeerFault 1) _ (0 ∷ 5 ∷ 6 ∷ 7 ∷ 9 ∷ []) (inr (inr (inl refl)))
    (choice (octet == 55) (Unfinished 3) _ (0 ∷ 5 ∷ 6 ∷ 7 ∷ 9 ∷ []) (inr (inr (inr (inl refl))))
    (choice (octet == 57) (TurnsSpent 4) _ (0 ∷ 5 ∷ 6 ∷ 7 ∷ 9 ∷ []) (inr (inr (inr (inr (inl refl)))))
    (choice (octet == 115) (PeerStatus (codes "in") 2) Done (0 ∷ 5 ∷ 6 ∷ 7 ∷ 9 ∷ []) (inr (inr (inl refl))) (inl refl)))))
