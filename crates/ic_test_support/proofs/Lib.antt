mod Asking
