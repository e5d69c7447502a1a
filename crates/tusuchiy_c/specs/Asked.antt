-- The profile that a number asks for.
use Rattle.std.specs.Prelude.{zero, suc, ℤ, pos, negsuc}
use Rattle.meaning.specs.declared.Profile.{Profile}
use Rattle.meaning.specs.declared.Profile.TheVariants.{Plain, Boards}

-- 0: not asked for, any other: asked for
abbrev pub profile_of : ℤ → Profile
profile_of (pos zero) = Plain
profile_of (pos (suc n)) = Boards
profile_of (negsuc n) = Boards
