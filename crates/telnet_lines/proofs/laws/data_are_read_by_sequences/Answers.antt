use Rattle.telnet_lines.proofs.Sequences.{plain_read, doubled_read, option_read, other_read, subnegotiation_read, unfinished_read}
use Rattle.telnet_lines.proofs.laws.data_are_read_by_sequences.Goals as goal

pub returns : goal.returns
returns c = record {
  plain = plain_read;
  doubled = doubled_read;
  option = option_read;
  subnegotiation = subnegotiation_read;
  other = other_read;
  unfinished = unfinished_read;
}
