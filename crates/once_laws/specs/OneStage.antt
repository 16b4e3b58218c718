-- A body of one request, one stage and one drive is one each of whose names is used once: so there are such bodies.
use Rattle.std.specs.Prelude.{ℕ, None, List, [], ◌∷◌, codes}
use Rattle.channel_types.specs.declared.esi_type.EsiType.{EsiType}
use Rattle.design_tree.specs.declared.leaves.Name.{Name}
use Rattle.design_tree.specs.declared.leaves.ApplicationId.{ApplicationId}
use Rattle.design_tree.specs.declared.leaves.Reference.TheVariants as R
use Rattle.design_tree.specs.declared.statements.Operation.TheVariants as O
use Rattle.design_tree.specs.declared.statements.Statement.{Statement}
use Rattle.design_tree.specs.declared.statements.Statement.TheVariants as S
use Rattle.design_tree.specs.declared.declarations.Direction.TheVariants.{ToHardware, FromHardware}
use Rattle.design_tree.specs.declared.declarations.Bundle.{Bundle}
use Rattle.design_tree.specs.declared.declarations.Service.{Service}
use Rattle.check_rules.specs.Scopes.{Scope}
use Rattle.check_rules.specs.Dependencies.{elements_of}
use Rattle.body_plans.specs.declared.ordered.OrderedElement.{OrderedElement}
use Rattle.body_plans.specs.Channels.{Before}
use Rattle.plan_laws.specs.Once.{IsOnceBody}

abbrev pub word : List ℕ → Name
word octets = record { octets = octets; at = 0 }

-- `bundle b { x: to_hw ..; y: from_hw ..; }`
abbrev pub bundle_b : EsiType → Bundle
bundle_b ty = record {
  name = word (codes "b");
  members = record { name = word (codes "x"); direction = ToHardware; ty = ty } ∷ record { name = word (codes "y"); direction = FromHardware; ty = ty } ∷ [];
}

-- `service H { port p: b; }`
abbrev pub service_h : Service
service_h = record { name = word (codes "H"); ports = record { name = word (codes "p"); bundle = word (codes "b") } ∷ [] }

abbrev pub id_r : ApplicationId
id_r = record { name = word (codes "r"); index = None }

-- `request H.p as r; chan a = stage r.x; drive r.y = a;`
abbrev pub statements : List Statement
statements =
    S.Request 0 (word (codes "H")) (word (codes "p")) id_r
    ∷ S.Channels 0 (word (codes "a") ∷ []) (O.Stage (R.Member id_r (word (codes "x"))))
    ∷ S.Drive 0 (R.Member id_r (word (codes "y"))) (R.Channel (word (codes "a")))
    ∷ []

abbrev pub body : EsiType → Scope
body ty = record { bundles = bundle_b ty ∷ []; services = service_h ∷ []; modules = []; ports = []; statements = statements; implements = [] }

-- its one element
abbrev pub order : List OrderedElement
order = record { number = 0; part = 0; count = 1; width = 8 } ∷ []

abbrev pub no_modules : Before
no_modules = record { names = []; endpoints = [] }

-- It is given one channel, and each of its names is used once.
abbrev pub EachStageBody : Type 0
EachStageBody = (ty : EsiType) → IsOnceBody [] (λ k. 1) 0 (body ty) no_modules (elements_of statements) order
