-- One slot: what is entered, what the groups make of it, and what is taken off their desks, channel by channel. Assumes nothing.
use Prim.Native.Nat.{ℕ, ◌+◌, ◌*◌, ◌/◌, ◌%◌, ◌<◌}
use native.Mathlib.Omega.{arith}
use mathlib.Core.Path.{◌≡◌, ap, ap₂, subst, ◌∙◌}
use mathlib.Core.Bool.{Bool, cond}
use mathlib.Core.List.{List}
use lib.Ieee.{Float, nan}
use lib.ListN.{get_or}
use Rattle.complex.specs.declared.Complex.{Complex}
use Rattle.complex.specs.Operations.{scaled}
use Rattle.layout.specs.declared.Layout.{Layout}
use Rattle.layout.specs.Numbers.{all_pass_of}
use Rattle.layout.proofs.Bounds.{bounds}
use Rattle.lists.specs.Part.{part}
use Rattle.planar.specs.Frame.{sample_in}
use Rattle.ps_allpass_groups.specs.Desk as desk
use Rattle.ps_allpass_groups.specs.Groups.{side_on, Grouped, AllGrouped}
use Rattle.ps_allpass_groups.specs.Rings.{Holds}
use Rattle.ps_allpass_groups.proofs.Kept.{chain_kept, from_kept, step_kept}
use Rattle.ps_decorr_allpass.specs.Memory.{lane_of}
use Rattle.ps_map.specs.Bands.{band_of, conjugated_of}
use Rattle.ps_stereo_slots.specs.Regions.{stepped}
use Rattle.standard.specs.declared.Chain.{Chain}
use Rattle.standard.specs.declared.Matrix.{Matrix}
use Rattle.standard.specs.Channel.{Channel, channel_after, third_output}
use Rattle.standard.specs.Mixing.{left_of, right_of}
use Rattle.ps_allpass_channels.specs.Desks.{desk_of, lanes_of, Lies, Left}
use Rattle.ps_allpass_channels.specs.Slots.{side_then, Passed}
use Rattle.ps_allpass_channels.proofs.Synthesis.{synthesised_same}

-- a row whose channels are also others that agree where they are read
row_same : (l : Layout) (y z : ℕ → Complex) (n : ℕ) (old new : List Float) → ((k : ℕ) → k < all_pass_of l → y k ≡ z k) → Left l y n old new → Left l z n old new
row_same l y z n old new same r =
    record { long = r.long; inside = λ q u. r.inside q u ∙ synthesised_same l y z same q u; above = r.above; before = r.before; behind = r.behind }

module _ (l : Layout) (samples gains input : List Float) (n turn : ℕ) (t : Float) (held : Bool)
    (desks₀ desks₁ desks delays₀ delays left₀ right₀ left right : List Float) (samples-in : Lies l desk.sample_on desks₁ (sample_in l samples input n))
    (ducks-in : Lies l desk.duck_on desks₁ (λ k. get_or gains (32 * band_of l k + n) nan)) (same_chain : Lies l desk.chain_on desks₁ (desk_of desk.chain_on desks₀))
    (same_from : Lies l desk.from_on desks₁ (desk_of desk.from_on desks₀)) (same_step : Lies l desk.step_on desks₁ (desk_of desk.step_on desks₀)) (grouped : AllGrouped l turn t held delays₀ desks₁ delays desks)
    (gone-left : Left l (desk_of desk.left_on desks) n left₀ left) (gone-right : Left l (desk_of desk.right_on desks) n right₀ right) where
  -- in channel k's lane
  module _ (k : ℕ) (u : k < lanes_of l) where
    abbrev desk₁ : List Float
    desk₁ = part (136 * (k / 4)) 136 desks₁

    done : Grouped turn t held (λ i. conjugated_of l (4 * (k / 4) + i)) (part (112 * (k / 4)) 112 delays₀) desk₁ (part (112 * (k / 4)) 112 delays) (part (136 * (k / 4)) 136 desks)
    done = grouped.done (k / 4) (omega arith)

    chain_stays : desk_of desk.chain_on desks k ≡ desk_of desk.chain_on desks₀ k
    unfolding desk_of
    chain_stays = chain_kept _ _ done.kept (k % 4) (omega arith) ∙ same_chain k u

    from_stays : desk_of desk.from_on desks k ≡ desk_of desk.from_on desks₀ k
    unfolding desk_of
    from_stays = from_kept _ _ done.kept (k % 4) (omega arith) ∙ same_from k u

    step_stays : desk_of desk.step_on desks k ≡ desk_of desk.step_on desks₀ k
    unfolding desk_of
    step_stays = step_kept _ _ done.kept (k % 4) (omega arith) ∙ same_step k u

    further : (c : Channel) → Holds turn (lane_of delays₀ k) c → Holds (turn + 1) (lane_of delays k) (channel_after (desk_of desk.chain_on desks₀ k) c (sample_in l samples input n k))
    unfolding lane_of desk_of
    further c h =
        subst (λ (z : Channel). Holds (turn + 1) (lane_of delays k) z)
        (ap₂ (λ (a : Chain) (x : Complex). channel_after a c x) (same_chain k u) (samples-in k u)) (done.own (k % 4) (omega arith) c h)

    matrix_same : desk.matrix_on t held (k % 4) desk₁ ≡ desk_of (desk.matrix_on t held) desks₀ k
    unfolding desk_of desk.matrix_on
    matrix_same = ap₂ (λ (f s : Matrix). cond held f (stepped f s t)) (same_from k u) (same_step k u)

    mark_same : conjugated_of l (4 * (k / 4) + k % 4) ≡ conjugated_of l k
    mark_same = ap (conjugated_of l) (omega arith)

    side_same : (side : Bool → Matrix → Complex → Complex → Complex) (c : ℕ → Channel)
        → side_on side t held (conjugated_of l (4 * (k / 4) + k % 4)) (k % 4) desk₁ (c k) ≡ side_then l samples gains input n t held desks₀ side c k
    unfolding side_on side_then desk_of
    side_same side c =
        λ i. side (mark_same i) (matrix_same i) (samples-in k u i) (scaled (third_output (same_chain k u i) (c k)) (ducks-in k u i))

    module _ (c : ℕ → Channel) (h : Holds turn (lane_of delays₀ k) (c k)) where
      left_same : desk_of desk.left_on desks k ≡ side_then l samples gains input n t held desks₀ left_of c k
      unfolding desk_of lane_of
      left_same = done.left (k % 4) (omega arith) (c k) h ∙ side_same left_of c

      right_same : desk_of desk.right_on desks k ≡ side_then l samples gains input n t held desks₀ right_of c k
      unfolding desk_of lane_of
      right_same = done.right (k % 4) (omega arith) (c k) h ∙ side_same right_of c

  lane : (k : ℕ) → k < all_pass_of l → k < lanes_of l
  lane k u = omega (arith, (bounds l).grouped)

  pub passed : Passed l samples gains input n turn t held desks₀ delays₀ left₀ right₀ desks delays left right
  passed =
      record {
        chain = chain_stays;
        from = from_stays;
        step = step_stays;
        long = grouped.long;
        behind = grouped.behind;
        own = further;
        on_left = λ c h. row_same l (desk_of desk.left_on desks) _ n left₀ left (λ k u. left_same k (lane k u) c (h k u)) gone-left;
        on_right = λ c h. row_same l (desk_of desk.right_on desks) _ n right₀ right (λ k u. right_same k (lane k u) c (h k u)) gone-right;
      }
