use Rattle.std.proofs.Common.{length, position, ap, ◌∙◌, rules}
use Rattle.dayfile.proofs.Feeds.{feeds, feed_place, past_feed}
use Rattle.dayfile.proofs.program.first_line.Goals as goal

pub returns-clause-line : goal.returns-clause-line
returns-clause-line c = λ text rest none e. past_feed c.line_feed.result _ c.map_or.result _ c.map_or.ensures (λ x q. search rules) (length text) (c.line_feed.ensures ∙ (ap (position feeds) e ∙ feed_place text rest none))
