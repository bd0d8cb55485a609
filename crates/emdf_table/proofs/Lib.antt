mod Rest
