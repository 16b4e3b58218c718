use Rattle.std.proofs.Common.{Ok, Err}
use Rattle.esi_base.specs.declared.stop.Stop.TheVariants.{Refused}
use Rattle.hpack_huffman.specs.declared.stop.HuffmanRule.TheVariants.{Padding, EndOfString}
use Rattle.hpack_huffman.proofs.AnswerFacts.{stop_of, found, only, end_of_string, end_of_string_only, padding, padding_only}
use Rattle.hpack_huffman.proofs.decoding.huff_decode.Goals as goal

pub returns-in-Ok-clause-found : goal.returns-in-Ok-clause-found
returns-in-Ok-clause-found c = found c.args.octets.now c.args.out.now c.read_code.new.out c.in-Ok.ensures.exact c.in-Ok.ensures.prefix

pub returns-in-Ok-clause-end_of_string_only : goal.returns-in-Ok-clause-end_of_string_only
returns-in-Ok-clause-end_of_string_only c = end_of_string_only c.args.octets.now c.args.out.now c.read_code.new.out (Ok c.in-Ok.field-0) c.in-Ok.ensures.exact

pub returns-in-Ok-clause-padding_only : goal.returns-in-Ok-clause-padding_only
returns-in-Ok-clause-padding_only c = padding_only c.args.octets.now c.args.out.now c.read_code.new.out (Ok c.in-Ok.field-0) c.in-Ok.ensures.exact

pub returns-in-Err-clause-only : goal.returns-in-Err-clause-only
returns-in-Err-clause-only c = only c.args.octets.now c.args.out.now c.read_code.new.out (Err c.in-Err.stop) c.in-Err.ensures.exact

pub returns-in-Err-clause-end_of_string : goal.returns-in-Err-clause-end_of_string
returns-in-Err-clause-end_of_string c e = end_of_string c.args.octets.now c.args.out.now c.read_code.new.out c.in-Err.stop c.in-Err.ensures.exact (stop_of c.in-Err.stop (Refused EndOfString) e)

pub returns-in-Err-clause-end_of_string_only : goal.returns-in-Err-clause-end_of_string_only
returns-in-Err-clause-end_of_string_only c = end_of_string_only c.args.octets.now c.args.out.now c.read_code.new.out (Err c.in-Err.stop) c.in-Err.ensures.exact

pub returns-in-Err-clause-padding : goal.returns-in-Err-clause-padding
returns-in-Err-clause-padding c e = padding c.args.octets.now c.args.out.now c.read_code.new.out c.in-Err.stop c.in-Err.ensures.exact (stop_of c.in-Err.stop (Refused Padding) e)

pub returns-in-Err-clause-padding_only : goal.returns-in-Err-clause-padding_only
returns-in-Err-clause-padding_only c = padding_only c.args.octets.now c.args.out.now c.read_code.new.out (Err c.in-Err.stop) c.in-Err.ensures.exact
