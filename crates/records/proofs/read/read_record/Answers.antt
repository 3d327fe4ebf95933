use Rattle.std.proofs.Common.{arith, rules}
use Rattle.records.proofs.Said.{said_for}
use Rattle.records.proofs.RoundTrip.{reads_back, was_written}
use Rattle.records.proofs.read.read_record.Goals as goal

pub returns-in_err-mark-clause-back : goal.returns-in_err-mark-clause-back
returns-in_err-mark-clause-back c = reads_back

pub returns-in_err-mark-clause-written : goal.returns-in_err-mark-clause-written
returns-in_err-mark-clause-written c = was_written

pub returns-in_err-kind : goal.returns-in_err-kind
returns-in_err-kind c = record { says = search rules; back = reads_back; written = was_written }

pub returns : goal.returns
returns c = record { says = grind (arith, said_for); back = reads_back; written = was_written }
