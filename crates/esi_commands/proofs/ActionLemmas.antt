-- The steps of a stimulus, one at a time.
use Rattle.std.proofs.Common.{◌≡◌, ℕ, ◌+◌, ◌<◌, Result, Ok, Err, List, [], ◌∷◌, ◌++◌, length, drop, get_or, refl, sym, ◌∙◌, ap, append_assoc}
use Rattle.std.proofs.lemmas.List.{append-nil}
use Rattle.esi_base.specs.Answers.{◌>>=◌, Reads}
use Rattle.esi_base.specs.declared.place.Refusal.{Refusal}
use Rattle.esi_base.specs.declared.stop.Stop.{Stop}
use Rattle.esi_base.specs.declared.stop.Stop.TheVariants.{Refused, NoMemory}
use Rattle.cycle_rules.specs.ActionLemmas.{drop_at, drop_all}
use Rattle.cycle_rules.specs.declared.action.Action.{Action}
use Rattle.channel_types.specs.declared.esi_type.EsiType.{EsiType}
use Rattle.stimulus_text.specs.declared.step.Step.{Step}
use Rattle.esi_commands.specs.Inputs.{action_of, actions_of}

-- the actions so far, before those of the steps that are left
abbrev pub after : List Action → Result (List Action) Refusal → Result (List Action) Refusal
after prefix (Ok actions) = Ok (prefix ++ actions)
after prefix (Err refusal) = Err refusal

-- the action of a step, and then those of the rest
abbrev behind : Result Action Refusal → Result (List Action) Refusal → Result (List Action) Refusal
behind action rest = action >>= λ d. rest >>= λ ds. Ok (d ∷ ds)

one_more : (prefix : List Action) (action : Action) (rest : Result (List Action) Refusal) → after (prefix ++ action ∷ []) rest ≡ after prefix (behind (Ok action) rest)
one_more prefix action (Ok ds) = ap (λ (l : List Action). let made : Result (List Action) Refusal = Ok l in made) (append_assoc prefix (action ∷ []) ds)
one_more prefix action (Err refusal) = refl

at_step : (ty : EsiType) (steps : List Step) (i : ℕ) (step : Step) → i < length steps → step ≡ get_or steps i step → actions_of ty (drop i steps) ≡ behind (action_of ty step) (actions_of ty (drop (i + 1) steps))
unfolding actions_of
at_step ty steps i step h is = ap (actions_of ty) (drop_at steps i step h is)

pub actions_more : (ty : EsiType) (prefix : List Action) (steps : List Step) (i : ℕ) (step : Step) (action : Action) (whole : Result (List Action) Refusal) → i < length steps → step ≡ get_or steps i step
    → action_of ty step ≡ Ok action → after prefix (actions_of ty (drop i steps)) ≡ whole → after (prefix ++ action ∷ []) (actions_of ty (drop (i + 1) steps)) ≡ whole
actions_more ty prefix steps i step action whole h is good so_far =
    one_more prefix action (actions_of ty (drop (i + 1) steps))
    ∙ sym (ap (after prefix) (at_step ty steps i step h is ∙ ap (λ d. behind d (actions_of ty (drop (i + 1) steps))) good))
    ∙ so_far

pub actions_none : (ty : EsiType) (prefix : List Action) (steps : List Step) (i : ℕ) (whole : Result (List Action) Refusal) → i ≡ length steps → after prefix (actions_of ty (drop i steps)) ≡ whole → whole ≡ Ok prefix
unfolding actions_of
actions_none ty prefix steps i whole at_end so_far =
    sym so_far ∙ ap (λ j. after prefix (actions_of ty (drop j steps))) at_end ∙ ap (λ left. after prefix (actions_of ty left)) (drop_all steps)
    ∙ ap (λ (l : List Action). let made : Result (List Action) Refusal = Ok l in made) (append-nil prefix)

pub actions_stop : (ty : EsiType) (prefix : List Action) (steps : List Step) (i : ℕ) (step : Step) (stop : (Stop Refusal)) (whole : Result (List Action) Refusal) → i < length steps → step ≡ get_or steps i step
    → Reads (action_of ty step) (Err stop) → after prefix (actions_of ty (drop i steps)) ≡ whole → Reads whole (Err stop)
actions_stop ty prefix steps i step (Refused refusal) whole h is bad so_far =
    sym so_far ∙ ap (after prefix) (at_step ty steps i step h is ∙ ap (λ d. behind d (actions_of ty (drop (i + 1) steps))) bad)
actions_stop ty prefix steps i step NoMemory whole h is bad so_far = tt
