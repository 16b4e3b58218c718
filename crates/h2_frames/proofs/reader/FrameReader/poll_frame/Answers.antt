use Rattle.h2_frames.specs.AnswerLaws.{answer_frame, answer_frame_only, answer_fault, answer_fault_only, answer_pending, answer_unchanged}
use Rattle.h2_frames.proofs.reader.FrameReader.poll_frame.Goals as goal

pub returns-clause-frame : goal.returns-clause-frame
returns-clause-frame c = answer_frame c.next_frame.result c.args.self.now c.next_frame.new.self c.next_frame.ensures

pub returns-clause-frame_only : goal.returns-clause-frame_only
returns-clause-frame_only c = answer_frame_only c.next_frame.result c.args.self.now c.next_frame.new.self c.next_frame.ensures

pub returns-clause-fault : goal.returns-clause-fault
returns-clause-fault c = answer_fault c.next_frame.result c.args.self.now c.next_frame.new.self c.next_frame.ensures

pub returns-clause-fault_only : goal.returns-clause-fault_only
returns-clause-fault_only c = answer_fault_only c.next_frame.result c.args.self.now c.next_frame.new.self c.next_frame.ensures

pub returns-clause-pending : goal.returns-clause-pending
returns-clause-pending c = answer_pending c.next_frame.result c.args.self.now c.next_frame.new.self c.next_frame.ensures

pub returns-clause-unchanged : goal.returns-clause-unchanged
returns-clause-unchanged c = answer_unchanged c.next_frame.result c.args.self.now c.next_frame.new.self c.next_frame.ensures
