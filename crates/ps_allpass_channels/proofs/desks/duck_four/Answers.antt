-- `ps_allpass_channels::desks::duck_four` meets its contract: four numbers side by side are four channels' ducking factors. Assumes nothing.
use mathlib.Core.Path.{◌≡◌, ap, ◌∙◌}
use mathlib.Core.List.{List}
use Prim.Native.Nat.{ℕ, ◌+◌, ◌*◌, ◌<◌}
use native.Mathlib.Omega.{arith}
use lib.Ieee.{Float, nan}
use lib.ListN.{length, get_or, set}
use Rattle.ps_allpass_channels.specs.DeskNumbers.{Put}
use Rattle.ps_allpass_channels.proofs.DeskRuns.{Run, run_none, run_more, run_put}
use Rattle.ps_allpass_channels.proofs.desks.duck_four.Goals as goal

module _ (map : List ℕ) (gains : List Float) (n g : ℕ) where
  abbrev duck_of : ℕ → Float
  duck_of k = get_or gains (32 * get_or map k 0 + n) nan

  laid : {old xs : List Float} → Run (136 * g + 116) 4 (λ i. duck_of (4 * g + i)) old xs → Put (4 * g) (4 * g + 4) 29 (λ j. j < 30) (λ k _. duck_of k) old xs
  laid r = run_put g 29 1 r (omega arith) (λ i j u lo hi. ap (λ (k : ℕ). duck_of k) (omega arith))

  written : (desks : List Float) (v w x y : Float) → g < 13 → length desks ≡ 1768
      → v ≡ duck_of (4 * g) → w ≡ duck_of (4 * g + 1) → x ≡ duck_of (4 * g + 2) → y ≡ duck_of (4 * g + 3)
      → Run (136 * g + 116) 4 (λ i. duck_of (4 * g + i)) desks
      (set (set (set (set desks (136 * g + 116) v) (136 * g + 116 + 1) w) (136 * g + 116 + 2) x) (136 * g + 116 + 3) y)
  written desks v w x y few whole a b c d =
      let at = 136 * g + 116 in
      run_more 3 (at + 3) y (omega arith) (omega (arith, whole)) d
      (run_more 2 (at + 2) x (omega arith) (omega (arith, whole)) c
      (run_more 1 (at + 1) w (omega arith) (omega (arith, whole)) b
      (run_more 0 at v (omega arith) (omega (arith, whole)) (a ∙ ap (λ (k : ℕ). duck_of k) (omega arith))
      (run_none at (λ i. duck_of (4 * g + i)) desks))))

pub duck-a-requires : goal.duck-a-requires
duck-a-requires c =
    let p = c.requires in
    (omega (arith, p.2), p.1, p.0 _)

pub duck-b-requires : goal.duck-b-requires
duck-b-requires c =
    let p = c.requires in
    (omega (arith, p.2), p.1, p.0 _)

pub duck-c-requires : goal.duck-c-requires
duck-c-requires c =
    let p = c.requires in
    (omega (arith, p.2), p.1, p.0 _)

pub duck-d-requires : goal.duck-d-requires
duck-d-requires c =
    let p = c.requires in
    (omega (arith, p.2), p.1, p.0 _)

pub returns : goal.returns
returns c =
    let a = c.args in
    laid a.map.now a.gains.now a.n a.g
    (written a.map.now a.gains.now a.n a.g a.desks.now c.duck-a.result c.duck-b.result c.duck-c.result c.duck-d.result
    c.requires.2 (omega arith) c.duck-a.ensures c.duck-b.ensures c.duck-c.ensures c.duck-d.ensures)
