-- `text_lines::Line::each` meets its contract: a step to a newline lets a line more be heard, and the last one leaves what the piece leaves. Assumes nothing.
use Rattle.std.proofs.Common.{◌≡◌, sym, ap, ◌∙◌, refl, Option, option_map, List, ℕ, Bor}
use mathlib.Core.Path.{subst}
use Rattle.text_lines.specs.Lines.{stepped, step_of}
use Rattle.text_lines.proofs.Steps.{behind_shorter}
use Rattle.text_lines.proofs.Pieces.{step_rest, ran_on}
use Rattle.text_lines.proofs.Line.each.Goals as goal

-- what a step promises, once its answer is known
known : (r s : Option (Bor (List ℕ))) (room held piece : List ℕ) (count after : ℕ) → r ≡ s
    → stepped (option_map (λ (x : Bor (List ℕ)). x.now) r) held after ≡ step_of room count piece
    → stepped (option_map (λ (x : Bor (List ℕ)). x.now) s) held after ≡ step_of room count piece
known r s room held piece count after is e = ap (λ o. stepped (option_map (λ (x : Bor (List ℕ)). x.now) o) held after) (sym is) ∙ e

pub loop-behind-smaller : goal.loop-behind-smaller
loop-behind-smaller g c = behind_shorter _ _ (step_rest _ _ _ _ _ _ (known _ _ _ _ _ _ _ c.in-Some.is c.take.ensures))

pub loop-behind-preserved : goal.loop-behind-preserved
loop-behind-preserved g c =
    let v = c.loop-behind.invariant in
    let h = ran_on _ _ _ _ _ _ (known _ _ _ _ _ _ _ c.in-Some.is c.take.ensures) in
    let heard = subst (λ (t : List ℕ). g.H.Hearer.hears c.loop-behind.hearer t c.hear.new.self) c.held.ensures c.hear.ensures in
    (sym h.0 ∙ v.0, λ last f. v.1 last (rw h.1 (c.hear.new.self, heard, f)))

pub returns-clause-lines : goal.returns-clause-lines
returns-clause-lines g c =
    let h = ran_on _ _ _ _ _ _ (known _ _ _ _ _ _ _ c.in_default.is c.take.ensures) in
    c.loop-behind.invariant.1 _ (rw h.1 refl)

pub returns-clause-left : goal.returns-clause-left
returns-clause-left g c =
    let h = ran_on _ _ _ _ _ _ (known _ _ _ _ _ _ _ c.in_default.is c.take.ensures) in
    sym h.0 ∙ c.loop-behind.invariant.0
