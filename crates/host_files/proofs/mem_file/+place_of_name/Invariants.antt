use Rattle.std.proofs.Common.{length}
use Rattle.host_files.proofs.mem_file.+place_of_name.Given as goal

abbrev pub decreases-place_of_name : goal.decreases-place_of_name
decreases-place_of_name l = length l.files.now
