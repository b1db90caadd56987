use Rattle.line_specifiers.proofs.Laws.{texts}
use Rattle.line_specifiers.proofs.specifier.enclosed_at.Goals as goal

pub text_to-requires : goal.text_to-requires
text_to-requires c = search texts
