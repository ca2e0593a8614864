-- Document 01, 'Proved samples': questions to the definitions that the promises cite, and the answers. Assumes nothing.
use Rattle.std.specs.Prelude.{false, List, [], ◌∷◌, map, ℕ, ◌+◌, ℤ, pos, negsuc, get_or}
use Rattle.borders.specs.Borders.{slots_of, borders_of}
use Rattle.layout.specs.declared.Layout.TheVariants.{Bands20, Bands34}
use Rattle.layout.specs.Numbers.{reset_from_of}
use Rattle.phase_table.specs.Directions.{direction_place}
use Rattle.phase_table.specs.Values.{phase}
use Rattle.ps_map.specs.declared.MapSrc.{MapSrc}
use Rattle.ps_map.specs.declared.MapSrc.TheVariants.{Avg, Avg4, W21}
use Rattle.ps_map.specs.Maps.{index_from}
use Rattle.ps_rows.specs.declared.Kind.{Kind}
use Rattle.ps_rows.specs.declared.Kind.TheVariants.{Coarse, Fine, Phase}
use Rattle.ps_rows.specs.Steps.{step}

pub data Question : Type 0 where
  -- a band's index from a row
  averaged : List ℤ → MapSrc → Question
  -- an index of a kind, and a delta as its byte
  stepped : Kind → ℤ → ℕ → Question
  -- the fixed borders of a frame's envelopes
  bordered : ℕ → ℕ → Question
  -- asked slots
  asked : ℕ → Question
  -- where a frame's own reset starts, with 20 bands and with 34
  edged : ℕ → Question
  -- the whole numbers of a smoothed phase
  directed : ℕ → ℕ → ℕ → Question

naturals : List ℕ → List ℤ
naturals ns = map pos ns

unfoldable pub answer : Question → List ℤ
unfolding naturals
answer (averaged row source) = index_from row source ∷ []
answer (stepped kind previous delta) = step kind previous delta ∷ []
answer (bordered slots envelopes) = naturals (borders_of slots false envelopes [])
answer (asked slots) = naturals (slots_of slots ∷ [])
answer (edged edge) = naturals (reset_from_of Bands20 edge ∷ reset_from_of Bands34 edge ∷ [])
answer (directed oldest previous current) =
    get_or phase (direction_place oldest previous current) (pos 0) ∷ get_or phase (direction_place oldest previous current + 1) (pos 0) ∷ []

unfoldable pub samples : List (Question × List ℤ)
samples =
    (averaged (negsuc 0 ∷ pos 0 ∷ []) (Avg 0 1), pos 0 ∷ []) ∷
    (averaged (negsuc 2 ∷ pos 0 ∷ []) (Avg 0 1), negsuc 0 ∷ []) ∷
    (averaged (pos 0 ∷ negsuc 0 ∷ []) (W21 0 1), pos 0 ∷ []) ∷
    (averaged (negsuc 0 ∷ negsuc 0 ∷ negsuc 0 ∷ pos 0 ∷ []) (Avg4 0 1 2 3), pos 0 ∷ []) ∷
    (stepped Coarse (pos 5) 4, pos 7 ∷ []) ∷
    (stepped Fine (pos 5) 4, pos 9 ∷ []) ∷
    (stepped Phase (pos 7) 1, pos 0 ∷ []) ∷
    (stepped Phase (pos 0) 255, pos 7 ∷ []) ∷
    (bordered 32 4, pos 7 ∷ pos 15 ∷ pos 23 ∷ pos 31 ∷ []) ∷
    (bordered 30 4, pos 6 ∷ pos 14 ∷ pos 21 ∷ pos 29 ∷ []) ∷
    (bordered 32 3, pos 9 ∷ pos 20 ∷ pos 31 ∷ []) ∷
    (asked 0, pos 6 ∷ []) ∷
    (asked 33, pos 32 ∷ []) ∷
    (edged 32, pos 39 ∷ pos 59 ∷ []) ∷
    (directed 0 0 4, negsuc 4503599627370495 ∷ pos 0 ∷ []) ∷
    []
