-- Bits by place.
use Rattle.std.specs.Prelude.{ℕ, ◌+◌, Bool, false, List, slice_get, unwrap_or}
use Rattle.ygg_eval_places.specs.declared.bits.Choices.{Choices}

-- the bit of a place; 0 past the end
abbrev pub bit_at : List Bool → ℕ → Bool
bit_at bits place = unwrap_or (slice_get bits place) false

-- the bits of the places that are seen
abbrev pub bits_in : Choices → ℕ → Bool
bits_in c place = bit_at c.bits.now (c.first + place)
