-- How long the names of keys are.
use Rattle.std.proofs.Common.{◌≤◌, length, arith}
use Rattle.wg_params.specs.declared.key.Key.{Key}
use Rattle.wg_params.specs.declared.key.Key.TheVariants.{GraphClass, Version, Endianness, Nodes, Arcs, WindowSize, MaxRefCount, MinIntervalLength, ZetaK, CompressionFlags}
use Rattle.wg_properties.specs.Words.{name_of}

pub short_name : (k : Key) → length (name_of k) ≤ 17
unfolding name_of
short_name GraphClass = omega arith
short_name Version = omega arith
short_name Endianness = omega arith
short_name Nodes = omega arith
short_name Arcs = omega arith
short_name WindowSize = omega arith
short_name MaxRefCount = omega arith
short_name MinIntervalLength = omega arith
short_name ZetaK = omega arith
short_name CompressionFlags = omega arith
