-- The connection preface (RFC 9113, section 3.4).
use Rattle.std.specs.Prelude.{ℕ, ◌==◌, Bool, true, false, ◌&&◌, List, [], ◌∷◌, if◌then◌else◌}
use Rattle.std.specs.List.{list_all, zip}
use Rattle.h2_layouts.specs.declared.context.FrameContext.{FrameContext}
use Rattle.h2_layouts.specs.declared.role.Role.{Role}
use Rattle.h2_layouts.specs.declared.role.Role.TheVariants.{Server, Client}

-- "PRI * HTTP/2.0", two line ends, "SM", two line ends
abbrev pub preface : List ℕ
preface =
    80 ∷ 82 ∷ 73 ∷ 32 ∷ 42 ∷ 32 ∷ 72 ∷ 84 ∷ 84 ∷ 80 ∷ 47 ∷ 50 ∷ 46 ∷ 48 ∷ 13 ∷ 10 ∷ 13 ∷ 10
    ∷ 83 ∷ 77 ∷ 13 ∷ 10 ∷ 13 ∷ 10 ∷ []

abbrev pub is_server : Role → Bool
is_server Server = true
is_server Client = false

-- what stands before the next frame
abbrev pub preface_due : FrameContext → List ℕ
preface_due context = if context.first && is_server context.role then preface else []

-- whether two texts have the same octets, as far as both reach
abbrev pub agrees : List ℕ → List ℕ → Bool
agrees text other = list_all (λ pair. pair.0 == pair.1) (zip text other)
