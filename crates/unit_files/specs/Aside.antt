-- What the code keeps of the disk's copy of its file beside the content. No definition of what is done speaks of it, and what a
-- session works on has nothing of it: a machine carries it so that contracts can say how the code writes the copy back.
use Rattle.std.specs.Prelude.{ℕ, ◌^◌, Bool, false, List, replicate}

unfoldable pub aside_length : ℕ
aside_length = 2 ^ 10

abbrev pub Aside : Type 0
Aside = List Bool

abbrev pub nothing_aside : Aside
nothing_aside = replicate aside_length false
