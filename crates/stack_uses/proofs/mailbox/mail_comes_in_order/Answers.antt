use Rattle.stack_uses.proofs.MailLemmas.{mail}
use Rattle.stack_uses.proofs.mailbox.mail_comes_in_order.Goals as goal

pub returns : goal.returns
returns c = mail
