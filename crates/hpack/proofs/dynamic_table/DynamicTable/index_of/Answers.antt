use Rattle.std.proofs.Common.{◌≡◌, ℕ, ◌+◌, true, false, drop, ap, sym, ◌∙◌, arith}
use Rattle.hpack.specs.Encoding.{first_index}
use Rattle.hpack.specs.Sought.{passes}
use Rattle.hpack.proofs.IndexLaws.{told, index_found, index_missed}
use Rattle.hpack.proofs.dynamic_table.DynamicTable.index_of.Goals as goal

pub returns-then-is_in : goal.returns-then-is_in
returns-then-is_in c =
    let p = passes c.args.sought c.args.header.now in
    let entry = c.in-Some.entry.now in
    let passed : p entry ≡ true = told c.args.sought c.args.header.now c.as_slice.result.now entry.name c.as_slice-in-loop-at.result.now entry.value c.is_in.result true c.as_slice.ensures c.as_slice-in-loop-at.ensures c.is_in.ensures c.if-is_in.true in
    sym (index_found p (62 + c.loop-at.at) c.args.self.now.entries c.loop-at.at entry (sym c.in-Some.ensures) passed) ∙ c.loop-at.invariant

pub loop-at-preserved : goal.loop-at-preserved
loop-at-preserved c =
    let p = passes c.args.sought c.args.header.now in
    let entry = c.in-Some.entry.now in
    let missed : p entry ≡ false = told c.args.sought c.args.header.now c.as_slice.result.now entry.name c.as_slice-in-loop-at.result.now entry.value c.is_in.result false c.as_slice.ensures c.as_slice-in-loop-at.ensures c.is_in.ensures c.if-is_in.false in
    ap (λ (k : ℕ). first_index p k (drop (c.loop-at.at + 1) c.args.self.now.entries)) (let k : 62 + (c.loop-at.at + 1) ≡ 62 + c.loop-at.at + 1 = omega arith in k)
    ∙ sym (index_missed p (62 + c.loop-at.at) c.args.self.now.entries c.loop-at.at entry (sym c.in-Some.ensures) missed) ∙ c.loop-at.invariant
