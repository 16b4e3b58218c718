use Rattle.std.proofs.Common.{◌≡◌, ℕ, List, false, length, ◌+◌, ◌-◌, ◌<◌, ◌≤◌}
use Rattle.esi_links.specs.Counts.{SameCounts}
use Rattle.esi_links.specs.ReadLog.{AddsNotesOf, AreInRow}
use Rattle.esi_links.specs.Texts.{PrefixOf, SameTexts}
use Rattle.esi_links.proofs.whole.read_whole.Given as goal

-- what was read is the prefix of the text, at most one octet above the limit, by reads in a row
abbrev pub invariant-loop-piece : goal.invariant-loop-piece
invariant-loop-piece g l = record {
  prefix : PrefixOf (g.F.Files.text l.fn.files l.name) l.octets;
  within : length l.octets ≤ l.limit + 1;
  texts : SameTexts (g.F.Files.text l.fn.files) (g.F.Files.text l.files);
  readable : 0 < length l.octets → g.F.Files.unreadable l.fn.files l.name ≡ false;
  unreadables : (other : List ℕ) → g.F.Files.unreadable l.files other ≡ g.F.Files.unreadable l.fn.files other;
  log : AddsNotesOf (g.F.Files.log l.fn.files) (g.F.Files.log l.files) (AreInRow l.limit l.name 0 (length l.octets));
  reads : SameCounts (g.F.Files.read_faults l.fn.files) (g.F.Files.read_faults l.files);
  writes : SameCounts (g.F.Files.write_faults l.fn.files) (g.F.Files.write_faults l.files);
}

abbrev pub decreases-loop-piece : goal.decreases-loop-piece
decreases-loop-piece g l = l.limit + 1 - length l.octets
