-- What is put in buffers of callers.
use Rattle.std.specs.Prelude.{◌≡◌, ◌<◌, ◌↔◌, ◌⊎◌, ◌++◌, ℕ, List, drop, length}

-- the buffer begins with the bytes; or it is too short for them, and unchanged
pub record IsWritten (bytes before after : List ℕ) (status : ℕ) : Type 0 where
  pub short : status ≡ 5 ↔ (length before < length bytes)
  pub unchanged : status ≡ 5 → after ≡ before
  pub written : status ≡ 0 → after ≡ bytes ++ drop (length bytes) before
  pub known : (status ≡ 0) ⊎ (status ≡ 5)
