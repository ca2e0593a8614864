-- `ps_allpass_channels::desks::lay_chain` meets its contract: each of a chain's numbers is stored at a place of its own. Assumes nothing.
use mathlib.Core.Path.{◌≡◌, refl}
use mathlib.Core.List.{List, [], ◌∷◌}
use Prim.Native.Nat.{ℕ, ◌+◌, ◌*◌, ◌/◌, ◌%◌, ◌<◌}
use native.Mathlib.Omega.{arith}
use lib.Ieee.{Float, nan}
use lib.ListN.{length, get_or, set}
use Rattle.ps_allpass_groups.specs.Desk.{chain_on}
use Rattle.standard.specs.declared.Chain.{Chain}
use Rattle.ps_allpass_channels.specs.Desks.{desk_of}
use Rattle.ps_allpass_channels.specs.DeskNumbers.{Put}
use Rattle.ps_allpass_channels.proofs.DeskPuts.{put_none, put_more}
use Rattle.ps_allpass_channels.proofs.DeskReads.{chain_at, same_chain}
use Rattle.ps_allpass_channels.proofs.desks.lay_chain.Goals as goal

-- a chain's numbers
abbrev chain_number : Chain → ℕ → Float
chain_number chain j =
    get_or
    (chain.fractional.re ∷ chain.fractional.im
    ∷ chain.first.rotation.re ∷ chain.first.rotation.im ∷ chain.first.feedback
    ∷ chain.second.rotation.re ∷ chain.second.rotation.im ∷ chain.second.feedback
    ∷ chain.third.rotation.re ∷ chain.third.rotation.im ∷ chain.third.feedback ∷ []) j nan

-- one number more
module _ (chain : Chain) (k : ℕ) (within : k < 52) (old : List Float) (whole : length old ≡ 1768) where
  abbrev Numbers : ℕ → List Float → Type 0
  Numbers m desks = Put k (k + 1) 0 (λ j. j < m) (λ _. chain_number chain) old desks

  more : (xs : List Float) (m place : ℕ) → m < 11 → place ≡ 136 * (k / 4) + k % 4 + 4 * m → Numbers m xs → Numbers (m + 1) (set xs place (chain_number chain m))
  more xs m place few at r = put_more r (λ j. j < m + 1) m place (chain_number chain m) within whole (omega arith) (omega arith) at refl (λ j lo u ne. omega arith)

  -- all of them are the chain
  told : (desks : List Float) → Numbers 11 desks → (desk_of chain_on desks k ≡ chain) × ((i : ℕ) → i < k → desk_of chain_on desks i ≡ desk_of chain_on old i)
  told desks all = (
    chain_at desks k (chain_number chain) (λ j lo u. all.inside k j (omega arith) (omega arith) lo (omega arith) u),
    λ i l. same_chain old desks i (λ j u. all.below i j l (omega arith)),
  )

pub returns : goal.returns
returns c =
    let a = c.args in
    let at = 136 * (a.k / 4) + a.k % 4 in
    let next = more a.chain a.k c.requires a.desks.now (omega arith) in
    let p = told a.chain a.k c.requires a.desks.now (omega arith) _
    (next _ 10 (at + 40) (omega arith) (omega arith)
    (next _ 9 (at + 36) (omega arith) (omega arith)
    (next _ 8 (at + 32) (omega arith) (omega arith)
    (next _ 7 (at + 28) (omega arith) (omega arith)
    (next _ 6 (at + 24) (omega arith) (omega arith)
    (next _ 5 (at + 20) (omega arith) (omega arith)
    (next _ 4 (at + 16) (omega arith) (omega arith)
    (next _ 3 (at + 12) (omega arith) (omega arith)
    (next _ 2 (at + 8) (omega arith) (omega arith)
    (next _ 1 (at + 4) (omega arith) (omega arith)
    (next _ 0 at (omega arith) (omega arith) (put_none a.k 0 (λ _. chain_number a.chain) a.desks.now)))))))))))) in
    record { own = p.0; before = p.1 }
