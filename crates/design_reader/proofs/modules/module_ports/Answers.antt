use Rattle.design_types.specs.TypeReading.{type_at}
use Rattle.channel_types.specs.declared.limits.TheConstants.{OPEN_TYPES}
use Rattle.design_reader.specs.DesignSteps.{no_ports}
use Rattle.design_reader.proofs.modules.module_ports.Goals as goal

pub returns-else-begins_port-clause-reads : goal.returns-else-begins_port-clause-reads
returns-else-begins_port-clause-reads c = no_ports (type_at OPEN_TYPES) c.args.cursor.now c.new.result (cc) c.new.ensures
