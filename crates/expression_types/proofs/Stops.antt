-- Where the last of three operands stops the typing, so does the expression.
use Rattle.std.proofs.Common.{◌≡◌, ℕ, ap, ◌∙◌}
use Rattle.std.specs.Prelude.{Ok}
use Rattle.esi_base.specs.declared.stop.Stop.{Stop}
use Rattle.esi_base.specs.declared.stop.Stop.TheVariants.{Refused, NoMemory}
use Rattle.esi_base.specs.Answers.{StopsAs, ◌>>=◌}
use Rattle.expression_types.specs.Views.{Typed}
use Rattle.expression_types.specs.Typing.{Typing}

pub third_stops : (whole first second third : Typing) (one other : Typed) (next : Typed → Typed → Typed → Typing) (stop : Stop ℕ)
    → whole ≡ first >>= (λ a. second >>= (λ b. third >>= next a b)) → first ≡ Ok one → second ≡ Ok other → StopsAs third stop → StopsAs whole stop
third_stops whole first second third one other next (Refused at) e h l s =
    e
    ∙ ap (λ (m : Typing). m >>= (λ a. second >>= (λ b. third >>= next a b))) h
    ∙ ap (λ (m : Typing). m >>= (λ b. third >>= next one b)) l
    ∙ ap (λ (m : Typing). m >>= next one other) s
third_stops whole first second third one other next NoMemory e h l s = tt
