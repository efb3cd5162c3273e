-- The constants of the code are the numbers of the definitions.
use Rattle.std.proofs.Common.{◌≡◌, refl}
use Rattle.strm_script.specs.declared.limits.TheConstants.{MOST_COMMAND_LINES, MOST_SCRIPT_BYTES}
use Rattle.strm_script.specs.Limits.{most_command_lines, most_script_bytes}

pub command_lines : MOST_COMMAND_LINES ≡ most_command_lines
command_lines = refl

pub script_bytes : MOST_SCRIPT_BYTES ≡ most_script_bytes
script_bytes = refl
