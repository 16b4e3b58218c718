use Rattle.serve_laws.specs.FlowLaws.{handed_flows}
use Rattle.serve_laws.specs.SegmentLaws.{is_segment}
use Rattle.serve_laws.proofs.prefix.stream_function_law.Goals as goal

pub returns : goal.returns
returns g c = record {
  handed = λ served flow keeps channel t below legal. handed_flows served flow keeps channel t below legal;
  segment = λ served conn stream t there legal is. is_segment served conn stream t there legal is;
}
