-- `NearCore` and `Near` hold of a state and itself, and from one state by another to a third. Assumes nothing.
use Prim.Native.Nat.{ℕ, ◌<◌}
use mathlib.Core.Path.{◌≡◌, refl, sym, subst, ◌∙◌}
use Rattle.layout.specs.declared.Layout.{Layout}
use Rattle.layout.specs.Numbers.{split_of, bands_of, channels_of}
use Rattle.standard.specs.Channel.{Channel}
use Rattle.standard.specs.Core.{Core}
use Rattle.calls.specs.Call.{Playing}
use Rattle.calls.specs.Near.{Alike, NearChannel, NearCore, Near}

-- ---- a channel

module _ (l : Layout) (k : ℕ) where
  pub channel_itself : (c d : Channel) → c ≡ d → NearChannel l k c d
  channel_itself c d e = record { past = λ i u. rw e; first = λ v i u. rw e; second = λ v i u. rw e; third = λ v i u. rw e }

  channel_by : (c d e : Channel) → NearChannel l k c d → NearChannel l k d e → NearChannel l k c e
  channel_by c d e near further =
      record {
        past = λ i u. near.past i u ∙ further.past i u;
        first = λ v i u. near.first v i u ∙ further.first v i u;
        second = λ v i u. near.second v i u ∙ further.second v i u;
        third = λ v i u. near.third v i u ∙ further.third v i u;
      }

-- ---- the sound's state

pub core_itself : (s : Core) → NearCore s s
core_itself s =
    record {
      layout = refl;
      cued = refl;
      channel = λ k u. channel_itself s.layout k (s.channel k) (s.channel k) refl;
      detector = λ b u. refl;
      kept = λ b u. refl;
    }

-- a state's facts over a layout that is equal to its own
module _ (l : Layout) (s t : Core) (near : NearCore s t) (e : s.layout ≡ l) where
  pub channels : (k : ℕ) → k < channels_of l → NearChannel l k (s.channel k) (t.channel k)
  channels = subst (λ (x : Layout). (k : ℕ) → k < channels_of x → NearChannel x k (s.channel k) (t.channel k)) e near.channel

  pub detectors : (b : ℕ) → b < bands_of l → s.detector b ≡ t.detector b
  detectors b u = near.detector b (rw e u)

  pub kepts : (b : ℕ) → b < bands_of l → s.kept b ≡ t.kept b
  kepts b u = near.kept b (rw e u)

pub core_by : (r s t : Core) → NearCore r s → NearCore s t → NearCore r t
core_by r s t near further =
    let e : s.layout ≡ r.layout = sym near.layout in
    record {
      layout = near.layout ∙ further.layout;
      cued = near.cued ∙ further.cued;
      channel = λ k u. channel_by r.layout k (r.channel k) (s.channel k) (t.channel k) (near.channel k u) (channels r.layout s t further e k u);
      detector = λ b u. near.detector b u ∙ detectors r.layout s t further e b u;
      kept = λ b u. near.kept b u ∙ kepts r.layout s t further e b u;
    }

-- ---- what is carried from call to call

pub near_itself : (s : Playing) → Near s s
near_itself s = record { slots = refl; lines = refl; past = λ p v i u. refl; core = core_itself s.core }

module _ (l : Layout) (s t : Playing) (near : Near s t) (e : s.core.layout ≡ l) where
  pub pasts : (p : ℕ) → p < split_of l → Alike 6 (s.past p) (t.past p)
  pasts p v = near.past p (rw e v)

pub near_by : (r s t : Playing) → Near r s → Near s t → Near r t
near_by r s t near further =
    record {
      slots = near.slots ∙ further.slots;
      lines = near.lines ∙ further.lines;
      past = λ p v i u. near.past p v i u ∙ pasts r.core.layout s t further (sym near.core.layout) p v i u;
      core = core_by r.core s.core t.core near.core further.core;
    }
