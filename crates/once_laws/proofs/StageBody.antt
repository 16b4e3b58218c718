-- Each name of the body of one stage is used once.
use Rattle.std.proofs.Common.{◌≡◌, suc, ◌+◌, false, List, [], ◌∷◌, ◌++◌, map, length, get_or, refl, ap, sym, ◌∙◌, arith}
use Rattle.std.specs.Prelude.{codes}
use Rattle.std.proofs.lemmas.List.{length-append}
use Rattle.channel_types.specs.declared.esi_type.EsiType.{EsiType}
use Rattle.design_tree.specs.declared.leaves.Reference.TheVariants as R
use Rattle.name_tables.specs.Labels.{Label, same_label}
use Rattle.name_tables.specs.Lists.{stands}
use Rattle.check_rules.specs.References.{reference_label}
use Rattle.check_rules.specs.Dependencies.{elements_of}
use Rattle.body_plans.specs.Channels.{Channel, no_name, name_of, under_name, inner, channels}
use Rattle.once_laws.specs.OneStage.{word, id_r, statements, body, order, no_modules, EachStageBody}

-- its two channels have two names: what the request gives, and what the stage makes
apart : (ty : EsiType) (front after : List Channel) (l : Label) → channels (body ty) no_modules (elements_of statements) order ≡ front ++ under_name l ∷ after → same_label l no_name ≡ false → stands l (map name_of front) ≡ false
apart ty [] after l e real = refl
apart ty (c ∷ []) after l e real =
    let first : c ≡ under_name (reference_label (R.Member id_r (word (codes "x")))) = ap (λ cs. get_or cs 0 inner) (sym e) in
    let second : l ≡ reference_label (R.Channel (word (codes "a"))) = ap (λ cs. name_of (get_or cs 1 inner)) (sym e) in
    ap (λ q. stands q (name_of c ∷ [])) second ∙ ap (λ d. stands (reference_label (R.Channel (word (codes "a")))) (name_of d ∷ [])) first
apart ty (c ∷ d ∷ front) after l e real =
    let count : 2 ≡ suc (suc (length (front ++ under_name l ∷ after))) = ap length e in
    let both : length (front ++ under_name l ∷ after) ≡ length front + suc (length after) = length-append front (under_name l ∷ after) in
    absurd (omega arith)

pub each_stage_body : EachStageBody
each_stage_body ty = record {
  ahead = record {
    taken = refl;
    ahead = ((record { named = refl }, tt), tt);
    ports = tt;
    clients = ((record { source = R.Channel (word (codes "a")); found = refl; among = record { named = refl } }, tt), (tt, (tt, tt)));
  };
  names = record { new = λ front after l e real. apart ty front after l e real };
  used = λ f. refl;
  instances = λ f. refl;
  apart = tt;
  ordered_apart = tt;
}
