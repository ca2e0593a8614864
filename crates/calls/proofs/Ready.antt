-- A change of layout and a frame's own reset keep two states near: what is reset is the same in both, and the coefficients are brought from bands that agree.
-- Assumes nothing.
use Prim.Native.Nat.{ℕ}
use mathlib.Core.Path.{◌≡◌, refl, sym, ap}
use mathlib.Core.Bool.{Bool, true, false, cond, true≢false}
use lib.Dec.{leb}
use Rattle.layout.specs.declared.Layout.{Layout}
use Rattle.layout.specs.declared.Layout.TheVariants.{Bands20, Bands34}
use Rattle.standard.specs.Channel.{Channel, silent}
use Rattle.standard.specs.Detector.{calm}
use Rattle.standard.specs.Core.{Head, Frame, Core, same_layout, remapped, switched, clear_from, cleared, ready, after, next}
use Rattle.standard.proofs.Runs.{ready_layout}
use Rattle.calls.specs.Near.{NearChannel, NearCore}
use Rattle.calls.proofs.Relation.{channel_itself}
use Rattle.calls.proofs.Cores.{near_after}
use Rattle.calls.proofs.Remaps.{remapped_same}

-- ---- a change of layout

abbrev other_layout : (l : Layout) (s : Core) → Core
other_layout l s = record { layout = l; cued = s.cued; channel = λ k. silent; detector = λ b. calm; kept = remapped l s.kept }

near_switched : (l : Layout) (s t : Core) → NearCore s t → NearCore (switched l s) (switched l t)
unfolding switched
near_switched l s t near =
    let e : same_layout t.layout l ≡ same_layout s.layout l = ap (λ (x : Layout). same_layout x l) (sym near.layout) in
    rw e (go (same_layout s.layout l) refl)
  where
    go : (same : Bool) → same_layout s.layout l ≡ same → NearCore (cond same s (other_layout l s)) (cond same t (other_layout l t))
    go true e = near
    go false e =
        record {
          layout = refl;
          cued = near.cued;
          channel = λ k u. channel_itself l k silent silent refl;
          detector = λ b u. refl;
          kept = λ b u. remapped_same s.layout l e s.kept t.kept near.kept b;
        }

-- ---- a frame's own reset

near_cleared : (l : Layout) (k from : ℕ) (c d : ℕ → Channel) → NearChannel l k (c k) (d k) → NearChannel l k (cleared from c k) (cleared from d k)
unfolding cleared
near_cleared l k from c d near = go (leb from k)
  where
    go : (clears : Bool) → NearChannel l k (cond clears silent (c k)) (cond clears silent (d k))
    go true = channel_itself l k silent silent refl
    go false = near

pub near_ready : (head : Head) (s t : Core) → NearCore s t → NearCore (ready head s) (ready head t)
unfolding ready
near_ready head s t near = go (switched head.layout s) (switched head.layout t) (near_switched head.layout s t near)
  where
    go : (x y : Core) → NearCore x y
        → NearCore (record { layout = x.layout; cued = x.cued; channel = cleared (clear_from head x.cued) x.channel; detector = x.detector; kept = x.kept })
        (record { layout = y.layout; cued = y.cued; channel = cleared (clear_from head y.cued) y.channel; detector = y.detector; kept = y.kept })
    go x y near-both =
        record {
          layout = near-both.layout;
          cued = near-both.cued;
          channel = λ k u. rw (← near-both.cued) (near_cleared x.layout k (clear_from head x.cued) x.channel y.channel (near-both.channel k u));
          detector = near-both.detector;
          kept = near-both.kept;
        }

-- ---- the layout of a state that is ready

pub layout_is : (x y : Layout) → same_layout x y ≡ true → x ≡ y
unfolding same_layout
layout_is Bands20 Bands20 e = refl
layout_is Bands20 Bands34 e = absurd (true≢false (sym e))
layout_is Bands34 Bands20 e = absurd (true≢false (sym e))
layout_is Bands34 Bands34 e = refl

-- ---- a whole frame

pub next_layout : (s : Core) (f : Frame) → (next s f).layout ≡ f.head.layout
unfolding next after
next_layout s f = ready_layout f.head s

pub near_next : (f : Frame) (s t : Core) → NearCore s t → NearCore (next s f) (next t f)
unfolding next
near_next f s t near = near_after f (ready f.head s) (ready f.head t) (near_ready f.head s t near) (ready_layout f.head s)
