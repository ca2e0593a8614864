-- The lengths of a decoder's arrays, which in code hold by their types. Assumes nothing.
use Rattle.std.specs.Prelude.{◌≡◌, length}
use Rattle.ps_state.specs.declared.PsDecoder.{PsDecoder}

pub record Shaped (s : PsDecoder) : Type 0 where
  pub history : length s.history ≡ 60
  pub delays : length s.decorr.delays ≡ 1456
  pub plain : length s.decorr.plain ≡ 394
  pub detectors : length s.decorr.detectors ≡ 102
  pub matrices : length s.stereo.matrices ≡ 272
  pub phases : length s.stereo.phases ≡ 136
