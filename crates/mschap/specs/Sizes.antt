-- Sizes of what C passes to the ciphers, in bytes, and the version of the interface.
-- Assumes nothing: these are definitions.
use Rattle.std.specs.Prelude.{ℕ}

abbrev pub digest_size : ℕ
digest_size = 16

abbrev pub key_size : ℕ
key_size = 7

abbrev pub des_block_size : ℕ
des_block_size = 8

-- 0.9.0: major, minor and patch, a byte each
abbrev pub interface_version : ℕ
interface_version = 2304
