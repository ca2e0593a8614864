-- `text_lines::step` meets its contract: a newline stands behind the part exactly where the part ends before the piece. Assumes nothing.
use Rattle.std.proofs.Common.{sym, ap, ◌∙◌}
use Rattle.std.proofs.lemmas.List.Sums.{prefix_len-le-length}
use Rattle.text_lines.specs.Lines.{of_line, counted, laid}
use Rattle.text_lines.proofs.Steps.{part_size, part_is, behind_is, stepped_is}
use Rattle.text_lines.proofs.step.Goals as goal

pub split_at-requires : goal.split_at-requires
split_at-requires c = rw c.before_newline-size.ensures (prefix_len-le-length of_line c.args.piece.now)

pub returns : goal.returns
returns c =
    let a = c.args in
    let n = c.before_newline-size.ensures in
    stepped_is _ _ _ _ _ _ (behind_is a.piece.now _ _ n c.split_at.ensures.back _ c.get.ensures.lookup)
    (c.hold.ensures ∙ ap (laid a.room.now a.count.now) (c.split_at.ensures.front ∙ part_is a.piece.now _ n))
    (c.saturating_add.ensures ∙ ap (counted a.count.now) (n ∙ sym (part_size a.piece.now)))
