-- A counter's values and their bytes.
use Rattle.std.specs.Prelude.{◌≡◌, ℕ, ◌^◌, ◌<◌, List, ◌∷◌, ◌++◌, length}
use Rattle.std.specs.List.{flat_map}
use Rattle.protocol.specs.declared.counters.Counters.{Counters}
use Rattle.protocol.specs.Bytes.{low_first, AllBelow}

-- the bytes behind the type
abbrev pub counters_bytes : Counters → List ℕ
counters_bytes c =
    c.config ∷ (low_first 2 c.voltage_ratio ++ (low_first 2 c.current_ratio ++ (low_first 4 c.full ++ (low_first 4 c.in_use ++ flat_map (low_first 4) c.tariffs))))

-- each value fits its bytes
pub record Fit (c : Counters) : Type 0 where
  pub config : c.config < 2 ^ 8
  pub voltage : c.voltage_ratio < 2 ^ 16
  pub current : c.current_ratio < 2 ^ 16
  pub full : c.full < 2 ^ 32
  pub in_use : c.in_use < 2 ^ 32
  pub four : length c.tariffs ≡ 4
  pub tariffs : AllBelow (2 ^ 32) c.tariffs
