-- Over a run: states that agree stay so from frame to frame, since a fixed layout never switches and a reset does to one what it does to the other.
-- Assumes nothing.
use Prim.Native.Nat.{ℕ, zero, suc, ◌+◌, ◌-◌, ◌≤◌, ◌<◌}
use native.Mathlib.Nat.{le_refl}
use native.Mathlib.Omega.{arith}
use mathlib.Core.Path.{◌≡◌, refl, sym, ap, ◌∙◌}
use mathlib.Core.Bool.{true}
use borrow.Author.Tests.{le-ltb}
use Rattle.complex.specs.declared.Complex.{Complex}
use Rattle.layout.specs.declared.Layout.{Layout}
use Rattle.layout.specs.declared.Layout.TheVariants.{Bands20, Bands34}
use Rattle.layout.specs.Numbers.{channels_of, split_of, unsplit_from_of}
use Rattle.ps_map.specs.Bands.{band_of}
use Rattle.standard.specs.Core.{Head, Frame, Core, fresh, same_layout, switched, cleared, ready, after, next, before, left, right}
use Rattle.standard.specs.Hybrid.{synthesised}
use Rattle.standard.specs.Isolation.{Same, Heard}
use Rattle.standard.proofs.Frames.{Agree, left_same, right_same, after_same}

same_layout_lem : (l : Layout) → same_layout l l ≡ true
unfolding same_layout
same_layout_lem Bands20 = refl
same_layout_lem Bands34 = refl

stays : (l : Layout) (s : Core) → s.layout ≡ l → switched l s ≡ s
unfolding switched
stays l s e =
    let p : same_layout s.layout l ≡ true = ap (λ (x : Layout). same_layout x l) e ∙ same_layout_lem l in
    rw p

switched_layout : (l : Layout) (s : Core) → (switched l s).layout ≡ l
unfolding switched same_layout
switched_layout l s = go s.layout l refl
  where
    go : (x y : Layout) → s.layout ≡ x → (switched y s).layout ≡ y
    go Bands20 Bands20 e = rw e
    go Bands20 Bands34 e = rw e
    go Bands34 Bands20 e = rw e
    go Bands34 Bands34 e = rw e

pub ready_layout : (head : Head) (s : Core) → (ready head s).layout ≡ head.layout
unfolding ready
ready_layout head s = switched_layout head.layout s

ready_agree : (l : Layout) (b : ℕ) (head : Head) (s t : Core) → head.layout ≡ l → s.layout ≡ l → Agree l b s t → Agree l b (ready head s) (ready head t)
unfolding ready cleared
ready_agree l b head s t h e agree =
    let p : switched head.layout s ≡ s = stays head.layout s (e ∙ sym h) in
    let q : switched head.layout t ≡ t = stays head.layout t (sym agree.layouts ∙ e ∙ sym h) in
    rw (p, q)
    (record {
      layouts = agree.layouts;
      cueds = agree.cueds;
      channels = λ k u o. rw (agree.channels k u o, agree.cueds);
      detectors = agree.detectors;
      kepts = agree.kepts;
    })

agree_same : (l : Layout) (b : ℕ) (s t : Core) → s ≡ t → Agree l b s t
agree_same l b s t e =
    record {
      layouts = ap (λ (x : Core). x.layout) e;
      cueds = ap (λ (x : Core). x.cued) e;
      channels = λ k u o. ap (λ (x : Core). x.channel k) e;
      detectors = ap (λ (x : Core). x.detector b) e;
      kepts = ap (λ (x : Core). x.kept b) e;
    }

-- frame i of each run starts from states that agree
starts : (l : Layout) (b : ℕ) (f g : ℕ → Frame) (i : ℕ) → ((j : ℕ) → j ≤ i → Same l b (f j) (g j)) → Agree l b (ready (f i).head (before fresh f i)) (ready (g i).head (before fresh g i))
unfolding before next
starts l b f g zero h = agree_same l b (ready (f 0).head fresh) (ready (g 0).head fresh) (ap (λ (x : Head). ready x fresh) (h 0 (le_refl 0)).heads)
starts l b f g (suc i) h =
    let earlier : Agree l b (ready (f i).head (before fresh f i)) (ready (g i).head (before fresh g i)) = starts l b f g i (λ j u. h j (omega arith)) in
    let here : Same l b (f i) (g i) = h i (omega arith) in
    let now : Same l b (f (suc i)) (g (suc i)) = h (suc i) (le_refl (suc i)) in
    let s = after (f i) (ready (f i).head (before fresh f i)) in
    let t = after (g i) (ready (g i).head (before fresh g i)) in
    let a : Agree l b s t = after_same l b (f i) (g i) (ready (f i).head (before fresh f i)) (ready (g i).head (before fresh g i)) here earlier in
    let e : s.layout ≡ l = unfold after in ready_layout (f i).head (before fresh f i) ∙ here.layout in
    rw (← now.heads) (ready_agree l b (f (suc i)).head s t now.layout e a)

-- an unsplit QMF band is one channel
unsplit_channel : (l : Layout) (q : ℕ) → q < 64 → q + unsplit_from_of l - split_of l < channels_of l
unsplit_channel Bands20 q h = omega arith
unsplit_channel Bands34 q h = omega arith

passed : (l : Layout) (y : ℕ → Complex) (q : ℕ) → split_of l ≤ q → synthesised l y q ≡ y (q + unsplit_from_of l - split_of l)
unfolding synthesised
passed l y q h = rw (le-ltb q (split_of l) h)

-- a stereo band hears only itself
pub isolation : (l : Layout) (b : ℕ) (f g : ℕ → Frame) (i : ℕ) → ((j : ℕ) → j ≤ i → Same l b (f j) (g j)) → Heard l b f g i
unfolding left right
isolation l b f g i h =
    let a = starts l b f g i h in
    let now : Same l b (f i) (g i) = h i (le_refl i) in
    let ls : (n k : ℕ) → n < (f i).head.slots → k < channels_of l → band_of l k ≡ b → left fresh f i n k ≡ left fresh g i n k
    = left_same l b (f i) (g i) (ready (f i).head (before fresh f i)) (ready (g i).head (before fresh g i)) now a in
    let rs : (n k : ℕ) → n < (f i).head.slots → k < channels_of l → band_of l k ≡ b → right fresh f i n k ≡ right fresh g i n k
    = right_same l b (f i) (g i) (ready (f i).head (before fresh f i)) (ready (g i).head (before fresh g i)) now a in
    record {
      lefts = ls;
      rights = rs;
      left_rows = λ n q u v w o. passed l (left fresh f i n) q v ∙ ls n (q + unsplit_from_of l - split_of l) u (unsplit_channel l q w) o ∙ sym (passed l (left fresh g i n) q v);
      right_rows = λ n q u v w o. passed l (right fresh f i n) q v ∙ rs n (q + unsplit_from_of l - split_of l) u (unsplit_channel l q w) o ∙ sym (passed l (right fresh g i n) q v);
    }
