-- Where nothing is known of what stands before.
use Rattle.byte_layouts.specs.declared.known.Known.{Known}

abbrev pub nothing : Known
nothing = record { version = 0; count = 0 }
