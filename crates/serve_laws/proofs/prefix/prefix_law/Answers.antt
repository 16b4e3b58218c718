use Rattle.serve_laws.specs.PrefixLaws.{written_is_prefix, written_is_segment}
use Rattle.serve_laws.proofs.prefix.prefix_law.Goals as goal

pub returns : goal.returns
returns g c = record {
  written = λ served read IsWord values reads offers conn stream t there legal frames is. written_is_prefix served read IsWord values reads offers conn stream t there legal frames is;
  prefix = λ served flow keeps read IsWord values reads offers conn stream t there legal frames is. written_is_segment served flow keeps read IsWord values reads offers conn stream t there legal frames is;
}
