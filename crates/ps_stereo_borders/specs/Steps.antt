-- What the crate's own functions ask and answer. Assumes nothing.
use Rattle.std.specs.Prelude.{ℕ, ◌+◌, ◌*◌, ◌≤◌, List, ◌++◌, ◌≡◌, Float, ℤ, length, drop}
use Rattle.cue.specs.declared.Header.{Header}
use Rattle.layout.specs.declared.Layout.{Layout}
use Rattle.layout.specs.Numbers.{bands_of}
use Rattle.limits.specs.Limits as limits
use Rattle.lists.specs.Part.{part, put}
use Rattle.lists.specs.Rows as lists
use Rattle.ps_data.specs.Indices.{PsIndices}
use Rattle.ps_stereo.specs.Kept.{phases_with}
use Rattle.ps_stereo_borders.specs.Borders.{kept_then, courses_then}

-- both lists have the runs that a copy goes through, and a run has eight numbers from the place on
pub record Room (bands run at wide from to : ℕ) : Type 0 where
  pub there : run * bands ≤ from
  pub inside : at + 8 ≤ run
  pub here : wide * bands ≤ to
  pub broad : 8 ≤ wide

-- the front of each of the first runs is eight numbers of another list's
abbrev pub copied : ℕ → List Float → ℕ → ℕ → List Float → ℕ → List Float
copied bands from run at to wide = lists.rows (λ b. put 0 8 (part (wide * b) wide to) (part (run * b + at) 8 from)) bands ++ drop (wide * bands) to

-- after e envelopes, whatever coefficients the courses begin with
pub record Advanced (l : Layout) (h : Header) (indices : PsIndices) (directions : List ℤ) (phases₀ : List ℤ) (rows₀ : List Float) (e : ℕ) (phases : List ℤ) (rows : List Float) : Type 0 where
  pub moved : (matrices : List Float) → phases ≡ phases_with l (λ b. kept_then l h indices directions matrices phases₀ b e) phases₀
  pub courses : (matrices lent : List Float) → limits.course * bands_of l ≤ length lent → rows₀ ≡ courses_then l h indices directions matrices phases₀ 0 lent
      → rows ≡ courses_then l h indices directions matrices phases₀ e lent
