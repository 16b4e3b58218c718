use Rattle.std.proofs.Common.{arith}
use Rattle.std.proofs.lemmas.Map.Text.{text_keys}
use Rattle.esi_links.proofs.holding.hold_text.Goals as goal

-- an insertion under one name leaves what stands under the others
pub returns-clause-elsewhere : goal.returns-clause-elsewhere
returns-clause-elsewhere c = grind (arith, text_keys)
