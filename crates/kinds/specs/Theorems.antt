-- What the bytes of a frame bring, in words: the theorem that the crate's contracts name.
use Rattle.std.specs.Prelude.{◌≡◌, ℕ, ◌/◌, true, List, [], length}
use Rattle.leaves.specs.Readings.{lowest}
use Rattle.leaves.specs.Taking.{all_between}
use Rattle.frames.specs.declared.size.ReadingSize.{ReadingSize}
use Rattle.frames.specs.declared.size.ReadingSize.TheVariants.{Two, Three}
use Rattle.frames.specs.Size.{bytes_each}
use Rattle.kinds.specs.Sides.{brought}

-- A reading of port is always in range, so that only a code can be refused for its range. There are as many as the bytes have whole readings, and as many codes
-- where a reading has one.
pub record BroughtInWords : Type 0 where
  pub port_fits : (size : ReadingSize) (bytes : List ℕ) → all_between lowest 65535 (brought size bytes).port ≡ true
  pub counted : (size : ReadingSize) (bytes : List ℕ) → length (brought size bytes).port ≡ length bytes / bytes_each size
  pub even : (bytes : List ℕ) → length (brought Three bytes).starboard ≡ length (brought Three bytes).port
  pub one_side : (bytes : List ℕ) → (brought Two bytes).starboard ≡ []
