use Rattle.std.proofs.Common.{arith}
use Rattle.std.proofs.lemmas.Grind.{common_steps}
use Rattle.design_manifest.proofs.Plain.{line_is_manifest}
use Rattle.design_manifest.proofs.text.manifest_text.Goals as goal

pub returns : goal.returns
returns c = record {
  text = line_is_manifest c.args.title.now c.args.directory.now c.args.requests.now _ _ _ c.in_ok-value.ensures c.in_ok-json.ensures.text c.in_ok-json.ensures.reads_back (grind (arith, common_steps));
}
