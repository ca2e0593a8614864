-- Lines that ended were heard: what is left of the piece has the others, and leaves the line that the whole piece leaves.
use Rattle.std.proofs.Common.{◌≡◌, length}
use Rattle.std.specs.List.{FoldsTo}
use Rattle.text_lines.specs.Lines.{left_by, ended_in}
use Rattle.text_lines.proofs.Line.each.Given as goal

abbrev pub invariant-loop-behind : goal.invariant-loop-behind
invariant-loop-behind g l =
    (left_by l.self.room l.self.count l.rest ≡ left_by l.fn.self.room l.fn.self.count l.fn.piece)
    × ((last : _) → FoldsTo g.H.Hearer.hears l.hearer (ended_in l.self.room l.self.count l.rest) last
    → FoldsTo g.H.Hearer.hears l.fn.hearer (ended_in l.fn.self.room l.fn.self.count l.fn.piece) last)

abbrev pub decreases-loop-behind : goal.decreases-loop-behind
decreases-loop-behind g l = length l.rest
