use Rattle.std.proofs.Common.{ap, ◌∙◌}
use Rattle.words.specs.Names.{is_name}
use Rattle.words.proofs.NameSteps.{IsUtf8-name, not_refused}
use Rattle.words.proofs.name.Name.as_text.Goals as goal

pub unwrap-requires : goal.unwrap-requires
unwrap-requires c = not_refused _ _ c.from_utf8.result (IsUtf8-name c.as_bytes.result.now (ap is_name c.as_bytes.ensures ∙ c.args.self.now.named)) c.from_utf8.ensures.cases
