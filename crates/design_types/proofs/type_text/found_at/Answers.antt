use Rattle.std.proofs.Common.{subst}
use Rattle.esi_base.specs.Answers.{Reads}
use Rattle.channel_types.specs.declared.limits.TheConstants.{OPEN_TYPES}
use Rattle.design_types.specs.TypeReading.{type_at, without_rest}
use Rattle.design_types.specs.TypeMeaning.{read_without_rest}
use Rattle.design_types.proofs.type_text.found_at.Goals as goal

pub returns : goal.returns
returns c =
    subst (λ ts. Reads (without_rest (type_at OPEN_TYPES ts)) c.next_type.result) c.from_offset-cursor.ensures
    (read_without_rest (type_at OPEN_TYPES c.from_offset-cursor.result) c.next_type.result c.next_type.new.cursor c.next_type.ensures.reads)
