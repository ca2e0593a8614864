-- The groups one by one: after g turns the first g are one slot further, and all that lies behind them is as it was. Assumes nothing.
use mathlib.Core.Path.{◌≡◌, refl, sym, ap, ◌∙◌}
use mathlib.Core.Bool.{Bool, true, false}
use mathlib.Core.List.{List}
use Prim.Native.Nat.{ℕ, ◌+◌, ◌*◌, ◌-◌, ◌≤◌, ◌<◌}
use native.Mathlib.Nat.{add-sub_cancel_left}
use native.Mathlib.Omega.{arith}
use borrow.Author.Tests.{eqb-true, eqb-false}
use borrow.Rule.Slice.PartMut.{same_len_mid}
use lib.Dec.{eqb}
use lib.Ieee.{Float}
use lib.ListN.{length, drop}
use Rattle.layout.specs.declared.Layout.{Layout}
use Rattle.layout.specs.Numbers.{groups_of}
use Rattle.lists.specs.Part.{part, put}
use Rattle.lists.proofs.Parts.{tail_lent, part_length, part_put, part_put_before, part_put_behind}
use Rattle.ps_map.specs.Bands.{conjugated_of}
use Rattle.standard.specs.Mixing.{left_of, right_of}
use Rattle.ps_allpass_groups.specs.Lanes.{Marks, mark_of}
use Rattle.ps_allpass_groups.specs.Groups.{side_on, Grouped, AllGrouped}

-- a part as `&mut s[a..a + n]` lends it, and the list once it is back
abbrev pub lent_of : ℕ → ℕ → List Float → List Float
lent_of a n xs = part a (a + n - a) xs

abbrev pub put_of : ℕ → ℕ → List Float → List Float → List Float
put_of a n xs ys = put a (a + n - a) xs ys

-- the rest of a list is a part that is long enough
rest_same : (a : ℕ) (xs ys : List Float) → length xs ≡ length ys → part a (length xs) xs ≡ part a (length xs) ys → drop a xs ≡ drop a ys
rest_same a xs ys l e = sym (tail_lent a (length xs) xs (omega arith)) ∙ e ∙ tail_lent a (length xs) ys (omega arith)

-- the marks count in four lanes only
marked_by : (turn : ℕ) (t : Float) (held : Bool) (mark other : ℕ → Bool) (part₀ desk₀ part₁ desk₁ : List Float) → ((i : ℕ) → i < 4 → mark i ≡ other i)
    → Grouped turn t held mark part₀ desk₀ part₁ desk₁ → Grouped turn t held other part₀ desk₀ part₁ desk₁
marked_by turn t held mark other part₀ desk₀ part₁ desk₁ same r =
    record {
      own = r.own;
      left = λ i l c h. r.left i l c h ∙ ap (λ (m : Bool). side_on left_of t held m i desk₀ c) (same i l);
      right = λ i l c h. r.right i l c h ∙ ap (λ (m : Bool). side_on right_of t held m i desk₀ c) (same i l);
      kept = r.kept;
    }

module _ (l : Layout) (turn : ℕ) (t : Float) (held : Bool) (delays₀ desks₀ : List Float) where
  -- group k, from what stood there to what stands there
  abbrev At : ℕ → List Float → List Float → List Float → List Float → Type 0
  At k part₀ desk₀ part₁ desk₁ = Grouped turn t held (λ i. conjugated_of l (4 * k + i)) part₀ desk₀ part₁ desk₁

  pub record SoFar (g : ℕ) (delays desks : List Float) : Type 0 where
    pub long : length delays ≡ length delays₀
    pub wide : length desks ≡ length desks₀
    pub done : (k : ℕ) → k < g → At k (part (112 * k) 112 delays₀) (part (136 * k) 136 desks₀) (part (112 * k) 112 delays) (part (136 * k) 136 desks)
    pub rest : (b j : ℕ) → 112 * g ≤ b → part b j delays ≡ part b j delays₀
    pub desks_rest : (b j : ℕ) → 136 * g ≤ b → part b j desks ≡ part b j desks₀

  pub none : SoFar 0 delays₀ desks₀
  none = record { long = refl; wide = refl; done = λ k u. absurd (omega arith); rest = λ b j u. refl; desks_rest = λ b j u. refl }

  module _ (g : ℕ) (delays desks ys zs : List Float) (room : 112 * g + 112 ≤ length delays) (desks_room : 136 * g + 136 ≤ length desks)
      (long-part : length ys ≡ 112) (wide-part : length zs ≡ 136) (sofar : SoFar g delays desks) where
    exact : At g (part (112 * g) 112 delays) (part (136 * g) 136 desks) ys zs → SoFar (g + 1) (put (112 * g) 112 delays ys) (put (136 * g) 136 desks zs)
    exact r =
        record {
          long = same_len_mid (112 * g) 112 delays ys (long-part ∙ sym (part_length (112 * g) 112 delays room)) ∙ sofar.long;
          wide = same_len_mid (136 * g) 136 desks zs (wide-part ∙ sym (part_length (136 * g) 136 desks desks_room)) ∙ sofar.wide;
          done = λ k u. go k u (eqb k g) refl;
          rest = λ b j u. part_put_behind (112 * g) 112 delays ys (omega arith) b j long-part (omega arith) ∙ sofar.rest b j (omega arith);
          desks_rest = λ b j u. part_put_behind (136 * g) 136 desks zs (omega arith) b j wide-part (omega arith) ∙ sofar.desks_rest b j (omega arith);
        }
      where
        go : (k : ℕ) → k < g + 1 → (b : Bool) → eqb k g ≡ b
            → At k (part (112 * k) 112 delays₀) (part (136 * k) 136 desks₀) (part (112 * k) 112 (put (112 * g) 112 delays ys)) (part (136 * k) 136 (put (136 * g) 136 desks zs))
        go k u true e =
            let here : k ≡ g = eqb-true k g e in
            rw (
              here,
              part_put (112 * g) 112 delays ys (omega arith) long-part,
              part_put (136 * g) 136 desks zs (omega arith) wide-part,
              ← sofar.rest (112 * g) 112 (omega arith),
              ← sofar.desks_rest (136 * g) 136 (omega arith),
            ) r
        go k u false e =
            let other : k ≡ g → ⊥ = eqb-false k g e in
            let less : k < g = omega (arith, other) in
            rw (
              part_put_before (112 * g) 112 delays ys (omega arith) (112 * k) 112 (omega arith),
              part_put_before (136 * g) 136 desks zs (omega arith) (136 * k) 136 (omega arith),
            ) (sofar.done k less)

    pub more : (marks : Marks) → ((i : ℕ) → i < 4 → mark_of i marks ≡ conjugated_of l (4 * g + i)) → Grouped turn t held (λ i. mark_of i marks) (lent_of (112 * g) 112 delays) (lent_of (136 * g) 136 desks) ys zs
        → SoFar (g + 1) (put_of (112 * g) 112 delays ys) (put_of (136 * g) 136 desks zs)
    more marks m r =
        rw (add-sub_cancel_left (112 * g) 112, add-sub_cancel_left (136 * g) 136)
        (exact
        (marked_by turn t held (λ i. mark_of i marks) (λ i. conjugated_of l (4 * g + i)) (part (112 * g) 112 delays) (part (136 * g) 136 desks) ys zs m
        (rw (add-sub_cancel_left (112 * g) 112, add-sub_cancel_left (136 * g) 136) at r)))

  pub all : (g : ℕ) (delays desks : List Float) → g ≡ groups_of l → SoFar g delays desks → AllGrouped l turn t held delays₀ desks₀ delays desks
  all g delays desks e r =
      record {
        done = λ k u. r.done k (omega arith);
        long = r.long;
        desks_long = r.wide;
        behind = rest_same (112 * groups_of l) delays delays₀ r.long (r.rest (112 * groups_of l) (length delays) (omega arith));
        desks_behind = rest_same (136 * groups_of l) desks desks₀ r.wide (r.desks_rest (136 * groups_of l) (length desks) (omega arith));
      }
